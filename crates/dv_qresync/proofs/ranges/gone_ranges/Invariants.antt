use Rattle.std.proofs.Common.{length}
use Rattle.dv_qresync.proofs.Gathered.{Leaves}
use Rattle.dv_qresync.proofs.ranges.gone_ranges.Given as goal

abbrev pub invariant-loop-pair : goal.invariant-loop-pair
invariant-loop-pair l = Leaves l.live.mailbox l.initial.pairs.items l.pairs.items l.place l.ranges.items

abbrev pub decreases-loop-pair : goal.decreases-loop-pair
decreases-loop-pair l = length l.pairs.items
