use Rattle.std.proofs.Common.{◌≡◌, ◌≤◌, ℕ, take}
use Rattle.std.specs.Prelude.{All}
use Rattle.dv_model.specs.Effects.{is_in_pairs}
use Rattle.dv_model.specs.Sets.{is_in_set}
use Rattle.dv_qresync.specs.Ranges.{IsWithin}
use Rattle.dv_qresync.proofs.ranges.pairs_within.Given as goal

abbrev pub invariant-loop-span : goal.invariant-loop-span
invariant-loop-span l = record {
  within : All (IsWithin l.star) l.pairs.items;
  same : (n : ℕ) → 1 ≤ n → n ≤ l.star → is_in_pairs l.pairs.items n ≡ is_in_set l.star (take l.span-index l.set) n;
}
