use Rattle.std.proofs.Common.{◌≡◌, false}
use Rattle.dv_thread_times.proofs.rounds.answer_all.Given as goal

abbrev pub invariant-loop-at : goal.invariant-loop-at
invariant-loop-at g l = l.s.spent ≡ false
