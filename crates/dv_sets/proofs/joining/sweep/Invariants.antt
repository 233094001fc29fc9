use Rattle.std.proofs.Common.{◌<◌, take}
use Rattle.std.specs.Prelude.{All}
use Rattle.dv_sets.proofs.Joins.{IsJoined}
use Rattle.dv_sets.proofs.joining.sweep.Given as goal

abbrev pub invariant-loop-range : goal.invariant-loop-range
invariant-loop-range l = record {
  done : All (λ range. range.high < l.next) (take l.range-index l.ranges);
  joined : IsJoined l.ranges l.next l.joined;
}
