use Rattle.std.specs.Prelude.{All}
use Rattle.dv_answer.specs.Following.{IsAbreast}
use Rattle.dv_bench.proofs.sessions.tell_all.Given as goal

abbrev pub invariant-loop-record : goal.invariant-loop-record
invariant-loop-record l = All (IsAbreast l.live.mailbox) l.sessions
