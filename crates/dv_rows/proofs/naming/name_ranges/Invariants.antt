use Rattle.std.proofs.Common.{◌⊎◌, ℕ, take}
use Rattle.std.specs.Prelude.{Contains}
use Rattle.dv_rows.specs.Parted.{IsNamed}
use Rattle.dv_rows.proofs.naming.name_ranges.Given as goal

abbrev pub invariant-loop-range : goal.invariant-loop-range
invariant-loop-range g l = record {
  named : (uid : ℕ) → IsNamed g.R.Range.lowest g.R.Range.highest (take l.range-index l.ranges) l.rows uid → Contains l.uids.items uid;
  kept : (uid : ℕ) → Contains l.initial.uids.items uid → Contains l.uids.items uid;
  only : (uid : ℕ) → Contains l.uids.items uid → Contains l.initial.uids.items uid ⊎ IsNamed g.R.Range.lowest g.R.Range.highest l.ranges l.rows uid;
}
