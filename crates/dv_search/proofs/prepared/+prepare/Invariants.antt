use Rattle.std.proofs.Common.{take}
use Rattle.std.specs.List.{AllZip}
use Rattle.dv_search.specs.Prepared.{IsPrepared}
use Rattle.dv_search.proofs.prepared.+prepare.Given as goal

abbrev pub invariant-prepared_all-loop-key : goal.invariant-prepared_all-loop-key
invariant-prepared_all-loop-key l = AllZip (IsPrepared l.star) (take l.key-index l.key-items) l.made
