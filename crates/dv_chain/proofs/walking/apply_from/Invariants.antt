use Rattle.std.proofs.Common.{◌-◌, length}
use Rattle.dv_chain.proofs.Walks.{Applying}
use Rattle.dv_chain.proofs.walking.apply_from.Given as goal

abbrev pub invariant-loop-live : goal.invariant-loop-live
invariant-loop-live l = Applying l.b l.from l.fn.live.mailbox l.at l.live.mailbox

abbrev pub decreases-loop-live : goal.decreases-loop-live
decreases-loop-live l = length l.b - l.at
