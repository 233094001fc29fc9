use Rattle.std.proofs.Common.{length}
use Rattle.dv_ranges.proofs.changes.+join.Given as goal

abbrev pub decreases-join : goal.decreases-join
decreases-join l = length l.changes.now
