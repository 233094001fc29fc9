use Rattle.dv_qresync.proofs.Gathered.{Gathers}
use Rattle.dv_qresync.proofs.ranges.put_free.Given as goal

abbrev pub invariant-loop-uid : goal.invariant-loop-uid
invariant-loop-uid l = Gathers l.live.mailbox l.range l.initial.ranges.items l.place l.last l.ranges.items

abbrev pub decreases-loop-uid : goal.decreases-loop-uid
decreases-loop-uid l = l.place
