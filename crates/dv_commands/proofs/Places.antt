-- The place of the first byte that passes a test.
use Rattle.std.proofs.Common.{◌≡◌, ℕ, ◌≤◌, Bool, not, cond, List, length, unwrap_or, position, nat_lt, Some, None, arith}
use Rattle.std.specs.List.{position_or_len}
use Rattle.std.proofs.lemmas.Bool.Decides.{nat_tests}
use Rattle.std.proofs.lemmas.List.Sums.{prefix_len-le-length}

end_for_none : (k n : ℕ) → k ≤ n → unwrap_or (cond (nat_lt k n) (Some k) None) n ≡ k
end_for_none k n h = grind (arith, nat_tests)

pub place_or_end : (p : ℕ → Bool) (text : List ℕ)
    → unwrap_or (position p text) (length text) ≡ position_or_len p text
place_or_end p text = end_for_none (position_or_len p text) (length text) (prefix_len-le-length (λ x. not (p x)) text)

pub place_within : (p : ℕ → Bool) (text : List ℕ) → position_or_len p text ≤ length text
place_within p text = prefix_len-le-length (λ x. not (p x)) text
