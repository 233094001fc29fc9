use Rattle.std.proofs.Common.{◌≡◌, ◌++◌, take, drop}
use Rattle.std.specs.Prelude.{map}
use Rattle.dv_ext.specs.Sizes.{fitted, sizes_of}
use Rattle.dv_model.specs.Effects.{with_row_parts}
use Rattle.dv_rows.proofs.bare.fit_rows.Given as goal

abbrev pub invariant-loop-row : goal.invariant-loop-row
invariant-loop-row l = l.rows ≡ map (with_row_parts (fitted (sizes_of l.extensions))) (take l.row-index l.initial.rows) ++ drop l.row-index l.initial.rows
