use Rattle.std.specs.Prelude.{All}
use Rattle.dv_answer.specs.Following.{IsAbreast}
use Rattle.dv_bench.proofs.sessions.answer_all.Given as goal

abbrev pub invariant-loop-session : goal.invariant-loop-session
invariant-loop-session l = All (IsAbreast l.live.mailbox) l.sessions
