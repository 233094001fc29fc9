use Rattle.std.proofs.Common.{◌≡◌, ◌≤◌, false, length, take}
use Rattle.std.specs.Prelude.{All}
use Rattle.std.specs.List.{list_any}
use Rattle.dv_rows.specs.Noted.{has}
use Rattle.dv_rows.proofs.uids.first_place.Given as goal

abbrev pub invariant-loop-range : goal.invariant-loop-range
invariant-loop-range g l = record {
  inside : l.first ≤ length l.rows;
  before : All (λ row. list_any (has g.R.Range.lowest g.R.Range.highest row.uid) (take l.range-index l.ranges) ≡ false) (take l.first l.rows);
}
