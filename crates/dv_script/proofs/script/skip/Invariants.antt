use Rattle.std.proofs.Common.{length}
use Rattle.dv_script.specs.Rests.{LeavesOut}
use Rattle.dv_script.proofs.script.skip.Given as goal

abbrev pub invariant-skipped : goal.invariant-skipped
invariant-skipped l = LeavesOut l.b l.rest

abbrev pub decreases-skipped : goal.decreases-skipped
decreases-skipped l = length l.rest
