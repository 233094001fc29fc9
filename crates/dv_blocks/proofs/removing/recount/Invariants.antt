use Rattle.std.proofs.Common.{◌≡◌, ◌≤◌, length, take}
use Rattle.dv_blocks.specs.Chunks.{cells_of, starts_from}
use Rattle.dv_blocks.proofs.removing.recount.Given as goal

abbrev pub invariant-loop-at : goal.invariant-loop-at
invariant-loop-at l = record {
  done : take l.at l.starts ≡ starts_from 0 (take l.at l.chunks);
  rows : l.rows ≡ length (cells_of (take l.at l.chunks));
  inside : l.at ≤ length l.chunks;
  many : length l.starts ≡ length l.chunks;
}
