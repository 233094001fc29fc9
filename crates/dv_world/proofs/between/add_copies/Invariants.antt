use Rattle.std.proofs.Common.{◌≡◌, ◌++◌, take}
use Rattle.dv_world.proofs.between.add_copies.Given as goal

abbrev pub invariant-loop-r : goal.invariant-loop-r
invariant-loop-r l = l.records.items ≡ l.fn.records.items ++ take l.r-index l.more
