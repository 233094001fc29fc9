use Rattle.std.proofs.Common.{◌≡◌, take}
use Rattle.dv_answer.specs.Following.{fresh_of}
use Rattle.dv_answer.proofs.fresh.fresh_of.Given as goal

abbrev pub invariant-loop-uid : goal.invariant-loop-uid
invariant-loop-uid l = l.fresh ≡ fresh_of l.live.mailbox (take l.uid-index l.uids)
