use Rattle.dv_index.proofs.Places.{AreSet}
use Rattle.dv_index.proofs.reading.keywords.read_places.Given as goal

abbrev pub invariant-loop-place : goal.invariant-loop-place
invariant-loop-place l = AreSet l.bits l.place l.places
