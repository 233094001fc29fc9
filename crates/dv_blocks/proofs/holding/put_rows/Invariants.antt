use Rattle.std.proofs.Common.{◌≡◌, List, ℕ, drop, map, take}
use Rattle.std.specs.Prelude.{fold}
use Rattle.dv_blocks.specs.Shared.{AreShared, due_of, row_of, with_due}
use Rattle.dv_blocks.proofs.holding.put_rows.Given as goal

abbrev pub invariant-loop-at : goal.invariant-loop-at
invariant-loop-at l = record {
  width : l.blocks.width ≡ l.initial.blocks.width;
  shared : AreShared (drop l.at l.held) l.sets l.blocks.cells;
  dues : map (due_of l.sets) (drop l.at l.held) ≡ drop l.at (map (due_of l.initial.sets) l.held);
  rows : (sizes : List ℕ) → map (row_of l.sets sizes) l.blocks.cells
      ≡ fold (with_due l.modseq) (map (row_of l.initial.sets sizes) l.initial.blocks.cells) (take l.at (map (due_of l.initial.sets) l.held));
}
