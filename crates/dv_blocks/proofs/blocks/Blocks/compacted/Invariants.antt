use Rattle.std.proofs.Common.{◌≡◌, take}
use Rattle.dv_blocks.proofs.Sides.{rows_of}
use Rattle.dv_blocks.proofs.blocks.Blocks.compacted.Given as goal

abbrev pub invariant-loop-at : goal.invariant-loop-at
invariant-loop-at l = l.made ≡ rows_of l.self.width (take l.at l.self.cells)
