use Rattle.std.proofs.Common.{◌≡◌, ◌+◌, ◌≤◌, length, drop}
use Rattle.dv_model.specs.Sessions.{ranges_of, with_uid}
use Rattle.dv_groups.proofs.ranges.range_count.Given as goal

abbrev pub invariant-loop-uid : goal.invariant-loop-uid
invariant-loop-uid l = record {
  counted : l.count + length (with_uid l.last (ranges_of (drop l.uid-index l.others))) ≡ length (ranges_of l.uids) + 1;
  few : l.count ≤ l.uid-index + 1;
}
