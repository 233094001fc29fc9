use Rattle.std.proofs.Common.{◌≡◌, ◌<◌, ℕ, take, get_or, length}
use Rattle.dv_model.specs.declared.types.Shown.{Shown}
use Rattle.dv_model.specs.Sets.{is_in_set}
use Rattle.dv_sets.specs.Intervals.{AreInside, is_covered}
use Rattle.dv_sets.proofs.choosing.uids.Given as goal

abbrev pub invariant-loop-span : goal.invariant-loop-span
invariant-loop-span l = record {
  inside : AreInside (length l.rows) l.intervals.items;
  covered : (k : ℕ) (d : Shown) → k < length l.rows → is_covered l.intervals.items k ≡ is_in_set l.star (take l.span-index l.span-items) (get_or l.rows k d).uid;
}
