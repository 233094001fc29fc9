use Rattle.dv_live.specs.Laws.{IsOf}
use Rattle.dv_tests_live.proofs.generated.follows_log.Given as goal

abbrev pub invariant-loop : goal.invariant-loop
invariant-loop l = IsOf l.watcher.saved l.watcher.live.mailbox
