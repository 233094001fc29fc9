use Rattle.std.proofs.Common.{◌≡◌, take}
use Rattle.dv_rebuild.specs.Reports.{unknown_of}
use Rattle.dv_rebuild.proofs.remaining.unknown_of.Given as goal

abbrev pub invariant-loop-uid : goal.invariant-loop-uid
invariant-loop-uid l = l.unknown ≡ unknown_of l.live.mailbox (take l.uid-index l.kept)
