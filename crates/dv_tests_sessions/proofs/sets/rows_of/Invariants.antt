use Rattle.std.proofs.Common.{◌≤◌, map, length}
use Rattle.std.specs.Prelude.{All}
use Rattle.std.specs.List.Sorted.{IsStrictlyIncreasing}
use Rattle.dv_tests_sessions.proofs.sets.rows_of.Given as goal

abbrev pub invariant-loop-uid : goal.invariant-loop-uid
invariant-loop-uid l = record {
  few : length l.rows ≤ 101;
  rising : IsStrictlyIncreasing (map (λ row. row.uid) l.rows);
  below : All (λ n. n ≤ l.last) (map (λ row. row.uid) l.rows);
}
