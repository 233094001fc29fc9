use Rattle.dv_rebuild.proofs.Unknown.{unknown_more}
use Rattle.dv_rebuild.proofs.remaining.unknown_of.Goals as goal

pub loop-uid-preserved : goal.loop-uid-preserved
loop-uid-preserved c =
    unknown_more c.args.live.now.mailbox c.args.kept.now c.loop-uid.uid-index c.is_unknown.result c.loop-uid.unknown c.in_ok-unknown.unknown c.loop-uid-test.true c.is_unknown.ensures c.loop-uid.invariant c.in_ok-unknown.ensures
