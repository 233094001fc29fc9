use Rattle.std.proofs.Common.{◌≡◌, false}
use Rattle.dv_thread_times.proofs.rounds.run_rounds.Given as goal

abbrev pub invariant-loop-round : goal.invariant-loop-round
invariant-loop-round g l = l.s.spent ≡ false
