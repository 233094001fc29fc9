use Rattle.std.proofs.Common.{◌≡◌, map, take}
use Rattle.dv_qresync.specs.Replicas.{span_of}
use Rattle.dv_qresync.proofs.texts.set_of.Given as goal

abbrev pub invariant-loop-pair : goal.invariant-loop-pair
invariant-loop-pair l = l.set ≡ map span_of (take l.pair-index l.pairs)
