use Rattle.std.proofs.Common.{◌≡◌, ℕ, ◌<◌, false, eqb, List, length, take, Err, refl, arith}
use Rattle.std.proofs.lemmas.List.{length-take}
use Rattle.dv_dbox.specs.BoxTexts.{size_at, BadMessageHeader}
use Rattle.dv_dbox.proofs.reading.size_of.Goals as goal

short : (b : List ℕ) → length b < 30 → size_at b ≡ Err BadMessageHeader
short b lt =
    let less : eqb (length (take 30 b)) 30 ≡ false = grind (arith, length-take 30 b) in
    rw less refl

pub returns-in_default : goal.returns-in_default
returns-in_default c = short c.args.b.now c.in_default.ensures.cases
