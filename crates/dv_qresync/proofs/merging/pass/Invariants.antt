use Rattle.std.proofs.Common.{◌≡◌, ◌++◌, length}
use Rattle.std.specs.Prelude.{reverse}
use Rattle.dv_qresync.specs.declared.types.Cached.{Cached}
use Rattle.dv_qresync.specs.Merging.{IsAt, rows_in}
use Rattle.dv_qresync.specs.Replicas.{with_cached}
use Rattle.dv_qresync.proofs.merging.pass.Given as goal

abbrev pub invariant-loop-row : goal.invariant-loop-row
invariant-loop-row l = record {
  at : IsAt l.uid l.merge;
  rows : (row : Cached) → row.uid ≡ l.uid → with_cached row (rows_in l.initial.merge) ≡ l.merge.before.items ++ with_cached row (reverse l.merge.after.items);
  validity : l.merge.uid_validity ≡ l.initial.merge.uid_validity;
  highest : l.merge.highest ≡ l.initial.merge.highest;
}

abbrev pub decreases-loop-row : goal.decreases-loop-row
decreases-loop-row l = length l.merge.after.items
