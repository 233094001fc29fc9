use Rattle.std.proofs.Common.{◌≡◌, ◌&&◌, take}
use Rattle.std.specs.Prelude.{filter, is_none}
use Rattle.dv_model.specs.Sessions.{has_uid}
use Rattle.dv_search.specs.Facts.{facts_of}
use Rattle.dv_responses.proofs.damaged.unknown_of.Given as goal

abbrev pub invariant-loop-uid : goal.invariant-loop-uid
invariant-loop-uid l = l.unknown ≡ filter (λ uid. has_uid l.live.mailbox uid && is_none (facts_of l.facts uid)) (take l.uid-index l.uids)
