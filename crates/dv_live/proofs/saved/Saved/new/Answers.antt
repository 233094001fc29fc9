use Rattle.dv_live.proofs.Following.{kept_of, kept_start}
use Rattle.dv_live.proofs.saved.Saved.new.Goals as goal

pub invariant_of-result : goal.invariant_of-result
invariant_of-result c =
    kept_start c.args.key c.in-Ok.sought c.in-Ok.uids c.args.live.now.mailbox c.in-Ok.ensures.valid c.requires.steady c.in-Ok.ensures.ready (c.in-Ok.ensures.uids c.requires.steady)

pub returns-in-Ok-clause-kept : goal.returns-in-Ok-clause-kept
returns-in-Ok-clause-kept c =
    kept_of c.args.key c.in-Ok.uids c.in-Ok.names.items c.args.live.now.mailbox c.in-Ok.ensures.valid c.in-Ok.ensures.names (c.in-Ok.ensures.uids c.requires.steady)
