use Rattle.std.proofs.Common.{◌≡◌, ◌-◌, ◌≤◌, ◌++◌, length, map, drop}
use Rattle.std.specs.Prelude.{flat_map}
use Rattle.std.specs.List.{enumerate_from}
use Rattle.dv_model.specs.declared.types.Body.TheVariants as body
use Rattle.dv_model.specs.Sessions.{internal_record, offset_row, pieces}
use Rattle.dv_groups.proofs.checks.add_offsets.Given as goal

abbrev pub invariant-loop-from : goal.invariant-loop-from
invariant-loop-from l = record {
  so_far :
      l.fn.records ++ map (λ rows. internal_record (body.ExtRecordUpdate (flat_map offset_row rows))) (pieces (enumerate_from 0 l.live.mailbox.rows))
      ≡ l.records ++ map (λ rows. internal_record (body.ExtRecordUpdate (flat_map offset_row rows))) (pieces (drop l.from (enumerate_from 0 l.live.mailbox.rows)));
  inside : l.from ≤ length l.live.mailbox.rows;
}

abbrev pub decreases-loop-from : goal.decreases-loop-from
decreases-loop-from l = length l.live.mailbox.rows - l.from
