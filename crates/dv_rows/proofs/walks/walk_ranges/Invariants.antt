use Rattle.std.proofs.Common.{◌≡◌, length, take}
use Rattle.std.specs.Prelude.{map}
use Rattle.dv_rows.specs.Kept.{AreRows}
use Rattle.dv_rows.specs.Noted.{IsTally, by_ranges, noted}
use Rattle.dv_rows.proofs.walks.walk_ranges.Given as goal

abbrev pub invariant-loop-range : goal.invariant-loop-range
invariant-loop-range g l = record {
  is : noted l.rows l.notes ≡ map (by_ranges g.R.Range.lowest g.R.Range.highest (g.S.Step.after l.step) (take l.range-index l.ranges)) (noted l.initial.rows l.initial.notes);
  rows : AreRows l.rows;
  many : length l.notes ≡ length l.rows;
  tally : IsTally l.counts l.notes;
}
