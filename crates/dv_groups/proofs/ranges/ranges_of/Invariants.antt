use Rattle.std.proofs.Common.{◌≡◌, ◌++◌, drop}
use Rattle.dv_model.specs.Sessions.{ranges_of}
use Rattle.dv_groups.proofs.Runs.{joined}
use Rattle.dv_groups.proofs.ranges.ranges_of.Given as goal

abbrev pub invariant-loop-uid : goal.invariant-loop-uid
invariant-loop-uid l = ranges_of l.uids ≡ l.pairs ++ joined l.range (ranges_of (drop l.uid-index l.others))
