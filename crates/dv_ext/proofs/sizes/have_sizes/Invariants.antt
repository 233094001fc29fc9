use Rattle.std.proofs.Common.{◌≡◌, take}
use Rattle.dv_ext.specs.Sizes.{sizes_of}
use Rattle.dv_ext.proofs.sizes.have_sizes.Given as goal

abbrev pub invariant-loop-at : goal.invariant-loop-at
invariant-loop-at l = sizes_of (take l.at l.one) ≡ sizes_of (take l.at l.other)
