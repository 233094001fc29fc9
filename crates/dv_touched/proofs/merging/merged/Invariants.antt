use Rattle.std.proofs.Common.{length, ◌+◌, ◌-◌}
use Rattle.dv_touched.proofs.Told.{AreMerged}
use Rattle.dv_touched.proofs.merging.merged.Given as goal

abbrev pub invariant-loop-i : goal.invariant-loop-i
invariant-loop-i l = AreMerged l.xs l.ys l.i l.j l.made.items

abbrev pub decreases-loop-i : goal.decreases-loop-i
decreases-loop-i l = (length l.xs - l.i) + (length l.ys - l.j)
