use Rattle.std.proofs.Common.{◌-◌, length}
use Rattle.dv_feed.proofs.Decoding.{IsReadTo}
use Rattle.dv_feed.proofs.groups.group_in.Given as goal

abbrev pub invariant-loop-at : goal.invariant-loop-at
invariant-loop-at l = IsReadTo l.text l.records l.at

abbrev pub decreases-loop-at : goal.decreases-loop-at
decreases-loop-at l = length l.text - l.at
