use Rattle.std.proofs.Common.{◌≡◌, ℕ, map, take}
use Rattle.dv_model.specs.declared.types.Shown.{Shown}
use Rattle.dv_responses.specs.Rows.{rows_at}
use Rattle.dv_responses.proofs.rows.uids_at.Given as goal

abbrev pub invariant-loop-number : goal.invariant-loop-number
invariant-loop-number l = l.uids ≡ map (λ (row : ℕ × Shown). row.1.uid) (rows_at l.rows (take l.number-index l.numbers))
