use Rattle.std.proofs.Common.{◌≡◌, ◌≤◌, length, map, take}
use Rattle.std.specs.Prelude.{filter}
use Rattle.dv_model.specs.declared.types.Row.{Row}
use Rattle.dv_model.specs.Sessions.{is_deleted}
use Rattle.dv_groups.proofs.changing.deleted_uids.Given as goal

abbrev pub invariant-loop-k : goal.invariant-loop-k
invariant-loop-k l = record {
  so_far : l.uids ≡ map (λ (row : Row). row.uid) (filter is_deleted (take l.k l.live.mailbox.rows));
  few : length l.uids ≤ 100000;
}
