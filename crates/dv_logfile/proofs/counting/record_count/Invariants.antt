use Rattle.std.proofs.Common.{length}
use Rattle.dv_logfile.proofs.Counted.{IsCounted}
use Rattle.dv_logfile.proofs.counting.record_count.Given as goal

abbrev pub invariant-loop-rest : goal.invariant-loop-rest
invariant-loop-rest l = IsCounted l.text l.rest l.count

abbrev pub decreases-loop-rest : goal.decreases-loop-rest
decreases-loop-rest l = length l.rest
