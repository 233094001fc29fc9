use Rattle.std.proofs.Common.{◌≡◌, take}
use Rattle.dv_ext.specs.Sizes.{fitted, sizes_of}
use Rattle.dv_rows.proofs.parts.fitted.Given as goal

abbrev pub invariant-loop-at : goal.invariant-loop-at
invariant-loop-at l = l.made ≡ fitted (sizes_of (take l.at l.extensions)) l.parts
