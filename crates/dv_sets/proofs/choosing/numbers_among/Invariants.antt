use Rattle.std.proofs.Common.{◌≡◌, ◌+◌, ◌<◌, ℕ, take}
use Rattle.dv_model.specs.Sets.{is_in_set}
use Rattle.dv_sets.specs.Intervals.{AreInside, is_covered}
use Rattle.dv_sets.proofs.choosing.numbers_among.Given as goal

abbrev pub invariant-loop-span : goal.invariant-loop-span
invariant-loop-span l = record {
  inside : AreInside l.count l.intervals.items;
  covered : (k : ℕ) → k < l.count → is_covered l.intervals.items k ≡ is_in_set l.count (take l.span-index l.span-items) (k + 1);
}
