use Rattle.std.proofs.Common.{take}
use Rattle.dv_rebuild.specs.Keywords.{AreUids}
use Rattle.dv_rebuild.proofs.keywords.uids_by_keyword.Given as goal

abbrev pub invariant-loop-uid : goal.invariant-loop-uid
invariant-loop-uid l = AreUids l.live.mailbox (take l.uid-index l.kept) l.lists.items
