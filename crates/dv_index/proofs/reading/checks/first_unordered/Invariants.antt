use Rattle.std.proofs.Common.{◌≡◌, ℕ, ◌<◌}
use Rattle.dv_formats.specs.SnapshotFaults.{IsInOrder, record_place, uid_before}
use Rattle.dv_index.proofs.reading.checks.first_unordered.Given as goal

abbrev pub invariant-loop : goal.invariant-loop
invariant-loop l = record {
  place : l.at ≡ record_place l.counter l.b;
  uid : l.before ≡ uid_before l.counter l.b;
  order : (k : ℕ) → k < l.counter → IsInOrder k l.b;
}
