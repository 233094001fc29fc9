use Rattle.std.proofs.Common.{◌≡◌, ℕ, take}
use Rattle.dv_model.specs.Sets.{is_in_set}
use Rattle.dv_sets.specs.Joined.{is_in_ranges}
use Rattle.dv_sets.proofs.joining.ranges_of.Given as goal

abbrev pub invariant-loop-span : goal.invariant-loop-span
invariant-loop-span l = (n : ℕ) → is_in_ranges l.ranges.items n ≡ is_in_set l.star (take l.span-index l.set) n
