use Rattle.std.proofs.Common.{◌≡◌, take}
use Rattle.dv_apply.proofs.light.copies.Given as goal

abbrev pub invariant-loop-r : goal.invariant-loop-r
invariant-loop-r l = l.made ≡ take l.r-index l.records
