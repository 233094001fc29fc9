use Rattle.std.proofs.Common.{◌≡◌, map, take}
use Rattle.dv_ranges.specs.Ranges.{pair_of}
use Rattle.dv_ranges.proofs.pairs.pairs_of.Given as goal

abbrev pub invariant-loop-change : goal.invariant-loop-change
invariant-loop-change l = l.pairs.items ≡ map pair_of (take l.change-index l.changes)
