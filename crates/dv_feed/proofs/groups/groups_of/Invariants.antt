use Rattle.std.proofs.Common.{length}
use Rattle.dv_feed.proofs.Grouping.{IsGroupedTo}
use Rattle.dv_feed.proofs.groups.groups_of.Given as goal

abbrev pub invariant-loop-rest : goal.invariant-loop-rest
invariant-loop-rest l = IsGroupedTo l.words l.entries l.rest

abbrev pub decreases-loop-rest : goal.decreases-loop-rest
decreases-loop-rest l = length l.rest
