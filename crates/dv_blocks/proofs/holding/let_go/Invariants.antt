use Rattle.std.proofs.Common.{◌≡◌, List, ℕ, drop, map}
use Rattle.dv_blocks.specs.Cells.{Cell}
use Rattle.dv_blocks.specs.Shared.{AreShared, row_of}
use Rattle.dv_blocks.proofs.holding.let_go.Given as goal

abbrev pub invariant-loop-at : goal.invariant-loop-at
invariant-loop-at l = record {
  shared : (cells : List Cell) → AreShared l.held l.initial.sets cells → AreShared (drop l.at l.held) l.sets cells;
  rows : (cells : List Cell) (sizes : List ℕ) → AreShared l.held l.initial.sets cells → map (row_of l.sets sizes) cells ≡ map (row_of l.initial.sets sizes) cells;
}
