use Rattle.std.proofs.Common.{◌≡◌, ℕ, ◌<◌, length, get_or}
use Rattle.dv_model.specs.declared.types.Row.{Row}
use Rattle.dv_formats.specs.SnapshotFaults.{IsRecord, record_at, record_place, version_at}
use Rattle.dv_index.proofs.reading.records.read_records.Given as goal

abbrev pub invariant-loop : goal.invariant-loop
invariant-loop l = record {
  place : l.at ≡ record_place l.counter l.b;
  counted : length l.rows ≡ l.counter;
  each : (k : ℕ) (d : Row) → k < length l.rows → IsRecord (version_at l.b) l.head (get_or l.rows k d) (record_at k l.b);
}
