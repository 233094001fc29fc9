use Rattle.std.proofs.Common.{◌≡◌, ◌∷◌, rules}
use Rattle.dv_formats.specs.Printing.{key_text}
use Rattle.dv_script.proofs.SpacedLemmas.{listed}
use Rattle.dv_script.proofs.keys.+key.Goals as goal

pub put_keys-returns : goal.put_keys-returns
put_keys-returns t c =
    let parts : c.args.keys.now ≡ c.in-Some.first.now ∷ c.in-Some.others.now = search rules in
    listed key_text c.in-Some.first.now c.args.keys.now c.in-Some.others.now c.loop-key.key-index c.args.text.now c.put_key.new.text c.loop-key.text parts c.loop-key-test.false c.in_ok-put_key.ensures c.loop-key.invariant
