use Rattle.std.proofs.Common.{◌-◌, length}
use Rattle.dv_chain.proofs.Walks.{Counting}
use Rattle.dv_chain.proofs.walking.count_between.Given as goal

abbrev pub invariant-loop-at : goal.invariant-loop-at
invariant-loop-at l = Counting l.b l.from l.place l.at l.count

abbrev pub decreases-loop-at : goal.decreases-loop-at
decreases-loop-at l = length l.b - l.at
