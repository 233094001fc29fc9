-- The first item that passes a test.
use Rattle.std.proofs.Common.{◌≡◌, ℕ, ◌<◌, ◌≤◌, Bool, true, false, List, [], ◌∷◌, length, get_or, position, Some, None, arith, nat_lt, cond, refl}
use Rattle.std.specs.List.{AllWithin, position_or_len}
use Rattle.std.proofs.lemmas.Bool.Decides.{nat_tests}
use Rattle.std.proofs.lemmas.List.Sums.{position_or_len_is}

some_at : (n k i : ℕ) → k ≡ i → i < n → cond (nat_lt k n) (Some k) None ≡ Some i
some_at n k i e h = grind (arith, nat_tests)

none_at : (n k : ℕ) → k ≡ n → cond (nat_lt k n) (Some k) None ≡ None
none_at n k e = grind (arith, nat_tests)

pub position_at : {X : Type 0} (p : X → Bool) (xs : List X) (i : ℕ) (d : X) → i < length xs → AllWithin (λ x. p x ≡ false) xs 0 i → p (get_or xs i d) ≡ true → position p xs ≡ Some i
position_at p xs i d h before here =
    some_at (length xs) (position_or_len p xs) i (position_or_len_is p xs i d (omega arith) (λ k lt. before k d (omega arith) lt) (λ _. here)) h

none_from : {X : Type 0} (p : X → Bool) (xs : List X) (d : X) → AllWithin (λ x. p x ≡ false) xs 0 (length xs) → position p xs ≡ None
none_from p xs d before =
    none_at (length xs) (position_or_len p xs) (position_or_len_is p xs (length xs) d (omega arith) (λ k lt. before k d (omega arith) lt) (λ lt. absurd (omega arith)))

pub position_none : {X : Type 0} (p : X → Bool) (xs : List X) (n : ℕ) → length xs ≤ n → AllWithin (λ x. p x ≡ false) xs 0 n → position p xs ≡ None
position_none p [] n h before = refl
position_none p (x ∷ xs) n h before = none_from p (x ∷ xs) x (λ k d low lt. before k d low (omega arith))
