use Rattle.std.proofs.Common.{◌≡◌, drop}
use Rattle.dv_interleavings.specs.Worlds.{same_set}
use Rattle.dv_world.proofs.same.same_set.Given as goal

abbrev pub invariant-loop-i : goal.invariant-loop-i
invariant-loop-i l = same_set l.one l.other ≡ same_set (drop l.i l.one) (drop l.i l.other)
