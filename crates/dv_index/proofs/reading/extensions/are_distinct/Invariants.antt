use Rattle.std.proofs.Common.{◌≢◌, AllPairs, take}
use Rattle.dv_index.proofs.reading.extensions.are_distinct.Given as goal

abbrev pub invariant-loop-at : goal.invariant-loop-at
invariant-loop-at l = AllPairs (λ a b. a.name ≢ b.name) (take l.at l.extensions)
