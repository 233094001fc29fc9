use Rattle.std.specs.List.{between}
use Rattle.dv_blocks.specs.Shared.{AreLess}
use Rattle.dv_blocks.proofs.numbers.release_rows.Given as goal

abbrev pub invariant-loop-at : goal.invariant-loop-at
invariant-loop-at l = AreLess l.initial.sets l.sets (between l.from l.at l.blocks.cells)
