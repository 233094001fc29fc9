use Rattle.std.proofs.Common.{◌≡◌, ◌<◌, ◌^◌, drop}
use Rattle.std.specs.Str.Parse.{digits_value, digits_value_after}
use Rattle.dv_dbox.specs.BoxTexts.{are_hex}
use Rattle.dv_dbox.proofs.digits.hex_number.Given as goal

abbrev pub invariant-loop-b : goal.invariant-loop-b
invariant-loop-b l =
    (digits_value_after 16 l.n (drop l.b-index l.text) ≡ digits_value 16 l.text)
    × (are_hex (drop l.b-index l.text) ≡ are_hex l.text)
    × (l.n < 16 ^ l.b-index)
