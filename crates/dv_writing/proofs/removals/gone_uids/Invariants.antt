use Rattle.std.proofs.Common.{◌≡◌, take}
use Rattle.dv_writing.specs.Removals.{uids_in}
use Rattle.dv_writing.proofs.removals.gone_uids.Given as goal

abbrev pub invariant-loop-name : goal.invariant-loop-name
invariant-loop-name l = l.uids ≡ uids_in l.fn.live.mailbox (take l.name-index l.names)
