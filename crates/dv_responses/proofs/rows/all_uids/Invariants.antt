use Rattle.std.proofs.Common.{◌≡◌, map, take}
use Rattle.dv_model.specs.declared.types.Shown.{Shown}
use Rattle.dv_responses.proofs.rows.all_uids.Given as goal

abbrev pub invariant-loop-row : goal.invariant-loop-row
invariant-loop-row l = l.uids ≡ map (λ (row : Shown). row.uid) (take l.row-index l.rows)
