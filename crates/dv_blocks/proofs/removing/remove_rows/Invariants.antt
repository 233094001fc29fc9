use Rattle.std.proofs.Common.{◌≡◌, ◌-◌, ◌≤◌, ◌++◌, drop, length, take, true}
use Rattle.std.specs.Prelude.{All}
use Rattle.dv_blocks.specs.Chunks.{cells_of, has_rows, left_from}
use Rattle.dv_blocks.proofs.removing.remove_rows.Given as goal

abbrev pub invariant-loop-at : goal.invariant-loop-at
invariant-loop-at l = record {
  done : l.chunks ≡ left_from l.from l.to (take l.at l.initial.chunks) ++ drop l.at l.initial.chunks;
  low : l.low ≡ l.from - length (cells_of (take l.at l.initial.chunks));
  high : l.high ≡ l.to - length (cells_of (take l.at l.initial.chunks));
  inside : l.at ≤ length l.initial.chunks;
  filled : l.filled ≡ true → All (λ c. has_rows c ≡ true) l.chunks;
}
