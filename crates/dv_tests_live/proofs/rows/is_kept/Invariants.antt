use Rattle.dv_live.specs.Laws.{IsOf}
use Rattle.dv_tests_live.proofs.rows.is_kept.Given as goal

abbrev pub invariant-loop-turn : goal.invariant-loop-turn
invariant-loop-turn l = IsOf l.watcher.saved l.watcher.live.mailbox
