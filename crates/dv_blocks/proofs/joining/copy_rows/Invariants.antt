use Rattle.std.proofs.Common.{◌≡◌, ◌++◌, take}
use Rattle.dv_blocks.proofs.Sides.{rows_of}
use Rattle.dv_blocks.proofs.joining.copy_rows.Given as goal

abbrev pub invariant-loop-at : goal.invariant-loop-at
invariant-loop-at l = l.made ≡ rows_of l.initial.made.width (l.initial.made.cells ++ take l.at l.block.cells)
