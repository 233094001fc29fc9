use Rattle.std.specs.Prelude.{All}
use Rattle.dv_answer.specs.Following.{IsAbreast}
use Rattle.dv_bench.proofs.sessions.all_selected.Given as goal

abbrev pub invariant-loop : goal.invariant-loop
invariant-loop l = All (IsAbreast l.live.mailbox) l.sessions.items
