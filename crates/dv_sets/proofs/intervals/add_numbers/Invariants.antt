use Rattle.std.proofs.Common.{◌≡◌, ◌+◌, ◌-◌, ◌≤◌, ◌++◌, map, max}
use Rattle.std.specs.List.{range_with_len}
use Rattle.dv_sets.proofs.intervals.add_numbers.Given as goal

abbrev pub invariant-loop-place : goal.invariant-loop-place
invariant-loop-place l = record {
  at : l.from ≤ l.place;
  until : l.place ≤ max l.from l.to;
  numbers : l.numbers ≡ l.fn.numbers ++ map (λ k. k + 1) (range_with_len l.from (l.place - l.from));
}
