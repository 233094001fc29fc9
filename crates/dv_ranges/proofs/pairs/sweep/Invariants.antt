use Rattle.std.proofs.Common.{◌≡◌, ℕ, ◌≤◌, ◌<◌, length, get_or, take}
use Rattle.std.specs.Prelude.{All}
use Rattle.dv_model.specs.declared.types.Pair.{Pair}
use Rattle.dv_model.specs.Effects.{is_in_pairs}
use Rattle.dv_ranges.specs.Ranges.{ArePairsApart}
use Rattle.dv_ranges.proofs.pairs.sweep.Given as goal

abbrev pub invariant-loop-pair : goal.invariant-loop-pair
invariant-loop-pair l = record {
  same : (uid : ℕ) → is_in_pairs l.joined.items uid ≡ is_in_pairs (take l.pair-index l.pairs) uid;
  apart : ArePairsApart l.joined.items;
  behind : (k : ℕ) (d : Pair) → l.pair-index ≤ k → k < length l.pairs → All (λ other. other.first ≤ (get_or l.pairs k d).first) l.joined.items;
}
