use Rattle.std.proofs.Common.{◌≡◌, take}
use Rattle.dv_qresync.specs.Merging.{IsMerge, merged}
use Rattle.dv_qresync.specs.Replicas.{caught_up}
use Rattle.dv_qresync.proofs.types.Replica.catch_up.Given as goal

abbrev pub invariant-loop-a : goal.invariant-loop-a
invariant-loop-a l = record {
  heard : merged l.merge ≡ caught_up l.self (take l.a-index l.a-items);
  at : IsMerge l.merge;
}
