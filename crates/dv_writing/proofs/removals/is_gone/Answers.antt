use Rattle.dv_writing.proofs.Listing.{gone_below}
use Rattle.dv_writing.proofs.removals.is_gone.Goals as goal

pub returns-then-uid-next_uid : goal.returns-then-uid-next_uid
returns-then-uid-next_uid c =
    gone_below c.args.live.now.mailbox c.args.uid c.next_uid.result c.position.result c.is_none-free.result c.position.ensures c.is_none-free.ensures c.next_uid.ensures.is c.if-uid-next_uid.true
