use Rattle.std.proofs.Common.{◌≡◌, take}
use Rattle.std.specs.Prelude.{map}
use Rattle.dv_rows.proofs.counts.flags_of.Given as goal

abbrev pub invariant-loop-row : goal.invariant-loop-row
invariant-loop-row l = l.notes.items ≡ map (λ row. row.flags) (take l.row-index l.rows)
