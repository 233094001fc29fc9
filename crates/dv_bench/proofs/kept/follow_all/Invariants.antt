use Rattle.dv_live.specs.Laws.{IsOf}
use Rattle.dv_bench.proofs.kept.follow_all.Given as goal

abbrev pub invariant-loop-record : goal.invariant-loop-record
invariant-loop-record l = IsOf l.saved l.live.mailbox
