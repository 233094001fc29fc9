use Rattle.std.proofs.Common.{◌≡◌, ◌<◌, length}
use Rattle.dv_model.specs.Fields.{folded_onto, header_lines, unfolded}
use Rattle.dv_lookups.proofs.lines.split_field.Given as goal

abbrev pub invariant-loop-rest : goal.invariant-loop-rest
invariant-loop-rest l =
    (unfolded (header_lines l.text) ≡ folded_onto l.field.items (unfolded (header_lines l.rest)))
    × (length l.rest < length l.text)

abbrev pub decreases-loop-rest : goal.decreases-loop-rest
decreases-loop-rest l = length l.rest
