use Rattle.std.proofs.Common.{◌-◌, length}
use Rattle.dv_keywords.proofs.Changes.{IsPast}
use Rattle.dv_keywords.proofs.places.insert.Given as goal

abbrev pub invariant-loop-at : goal.invariant-loop-at
invariant-loop-at l = IsPast l.place l.places.items l.at

abbrev pub decreases-loop-at : goal.decreases-loop-at
decreases-loop-at l = length l.initial.places.items - l.at
