use Rattle.std.proofs.Common.{◌-◌, length}
use Rattle.dv_chain.specs.Walks.{IsWalked}
use Rattle.dv_chain.proofs.walking.measure.Given as goal

abbrev pub invariant-loop-behind : goal.invariant-loop-behind
invariant-loop-behind l = IsWalked l.from l.b l.at l.count

abbrev pub decreases-loop-behind : goal.decreases-loop-behind
decreases-loop-behind l = length l.b - l.at
