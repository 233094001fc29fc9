use Rattle.std.proofs.Common.{◌≡◌, ◌≤◌, drop, length, map}
use Rattle.std.specs.Prelude.{reverse}
use Rattle.dv_model.specs.Sessions.{ranges_of}
use Rattle.dv_qresync.specs.declared.types.Cached.{Cached}
use Rattle.dv_qresync.proofs.types.Replica.old.Given as goal

abbrev pub invariant-loop-left : goal.invariant-loop-left
invariant-loop-left l = record {
  inside : l.left ≤ length l.rows;
  ranges : reverse l.ranges.items ≡ ranges_of (map (λ (row : Cached). row.uid) (drop l.left l.rows));
}

abbrev pub decreases-loop-left : goal.decreases-loop-left
decreases-loop-left l = l.left
