use Rattle.std.proofs.Common.{◌≡◌, ◌≤◌, take}
use Rattle.std.specs.Prelude.{All}
use Rattle.dv_sets.specs.Intervals.{is_covered, numbers_where}
use Rattle.dv_sets.proofs.intervals.sweep.Given as goal

abbrev pub invariant-loop-interval : goal.invariant-loop-interval
invariant-loop-interval l = record {
  within : l.next ≤ l.count;
  done : All (λ interval. interval.to ≤ l.next) (take l.interval-index l.intervals);
  numbers : l.numbers ≡ numbers_where (is_covered l.intervals) l.next;
}
