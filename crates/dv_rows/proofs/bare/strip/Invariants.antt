use Rattle.std.proofs.Common.{◌≡◌, ◌++◌, [], take, drop}
use Rattle.std.specs.Prelude.{map}
use Rattle.dv_model.specs.Effects.{with_row_parts}
use Rattle.dv_rows.proofs.bare.strip.Given as goal

abbrev pub invariant-loop-row : goal.invariant-loop-row
invariant-loop-row l = l.rows ≡ map (with_row_parts (λ parts. [])) (take l.row-index l.initial.rows) ++ drop l.row-index l.initial.rows
