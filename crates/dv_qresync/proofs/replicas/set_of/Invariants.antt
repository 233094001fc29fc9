use Rattle.std.proofs.Common.{◌≡◌, ◌++◌, length, map}
use Rattle.std.specs.Prelude.{reverse}
use Rattle.dv_qresync.specs.Replicas.{span_of}
use Rattle.dv_qresync.proofs.replicas.set_of.Given as goal

abbrev pub invariant-loop-range : goal.invariant-loop-range
invariant-loop-range l = l.set ++ map span_of (reverse l.ranges.items) ≡ map span_of (reverse l.initial.ranges.items)

abbrev pub decreases-loop-range : goal.decreases-loop-range
decreases-loop-range l = length l.ranges.items
