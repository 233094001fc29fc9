use Rattle.dv_index.proofs.Bitmaps.{AreWords}
use Rattle.dv_index.proofs.rows.words_of.Given as goal

abbrev pub invariant-loop-place : goal.invariant-loop-place
invariant-loop-place l = AreWords l.places l.place-index l.count l.words.items
