-- How many rows are not marked, and the sum of their sizes.
use Rattle.std.proofs.Common.{◌≡◌, ◌≢◌, ℕ, zero, suc, ◌+◌, ◌≤◌, Bool, true, false, cond, List, [], ◌∷◌, ◌∙◌, length, Some, refl, ap, sym, arith}
use Rattle.std.specs.Prelude.{filter, sum_by}
use Rattle.std.specs.List.{enumerate_from, slice_get}
use Rattle.std.proofs.lemmas.List.Sums.{sum_by-cons}
use Rattle.dv_maildrop.specs.declared.types.Listed.{Listed}

abbrev kept : (ℕ → Bool) → List (ℕ × Listed) → List (ℕ × Listed)
kept p rows = filter (λ row. p row.0) rows

-- tests that agree from a number on
kept_alike : (p q : ℕ → Bool) (n : ℕ) (rows : List Listed) → ((j : ℕ) → n ≤ j → p j ≡ q j)
    → kept p (enumerate_from n rows) ≡ kept q (enumerate_from n rows)
kept_alike p q n [] same = refl
kept_alike p q n (row ∷ rows) same =
    let here = same n (omega arith) in
    let others = kept_alike p q (n + 1) rows (λ j above. same j (omega (arith, above))) in
    rw (here, others) refl

-- one entry more, or not
with_first : (f : ℕ × Listed → ℕ) (x : ℕ × Listed) (n : ℕ) (xs ys : List (ℕ × Listed)) (b : Bool) → sum_by f xs ≡ n + sum_by f ys
    → sum_by f (cond b (x ∷ xs) xs) ≡ n + sum_by f (cond b (x ∷ ys) ys)
with_first f x n xs ys false same = same
with_first f x n xs ys true same = omega (arith, same, sum_by-cons f x xs, sum_by-cons f x ys)

-- one row fewer
pub one_fewer : (f : ℕ × Listed → ℕ) (p q : ℕ → Bool) (n k at : ℕ) (rows : List Listed) (row : Listed) → at ≡ n + k → slice_get rows k ≡ Some row
    → p at ≡ true → q at ≡ false → ((j : ℕ) → j ≢ at → p j ≡ q j)
    → sum_by f (kept p (enumerate_from n rows)) ≡ f (at, row) + sum_by f (kept q (enumerate_from n rows))
one_fewer f p q n k at [] row is here holds fails others = absurd cc
one_fewer f p q n zero at (x ∷ rows) row is here holds fails others =
    let first : at ≡ n = omega (arith, is) in
    let found : x ≡ row = cc in
    let in_p : p n ≡ true = ap p (sym first) ∙ holds in
    let in_q : q n ≡ false = ap q (sym first) ∙ fails in
    let same = kept_alike p q (n + 1) rows (λ j above. others j (λ e. omega (arith, above, first, e))) in
    rw (in_p, in_q, same, first, ← found) (sum_by-cons f (n, x) (kept q (enumerate_from (n + 1) rows)))
one_fewer f p q n (suc k) at (x ∷ rows) row is here holds fails others =
    let rest = one_fewer f p q (n + 1) k at rows row (omega (arith, is)) here holds fails others in
    let same : p n ≡ q n = others n (λ e. omega (arith, is, e)) in
    rw same (with_first f (n, x) (f (at, row)) (kept p (enumerate_from (n + 1) rows)) (kept q (enumerate_from (n + 1) rows)) (q n) rest)

-- a length counts each once
pub length_is_sum : {X : Type 0} (xs : List X) → length xs ≡ sum_by (λ x. 1) xs
length_is_sum [] = refl
length_is_sum (x ∷ xs) = ap suc (length_is_sum xs) ∙ omega (arith, sum_by-cons (λ y. 1) x xs)

-- where nothing is left out
pub all_kept : {X : Type 0} (xs : List X) → filter (λ x. true) xs ≡ xs
all_kept [] = refl
all_kept (x ∷ xs) = ap (λ ys. x ∷ ys) (all_kept xs)

-- sizes beside numbers
pub sum_numbered : (n : ℕ) (rows : List Listed) → sum_by (λ row. row.1.size) (enumerate_from n rows) ≡ sum_by (λ row. row.size) rows
sum_numbered n [] = refl
sum_numbered n (row ∷ rows) =
    sum_by-cons (λ r. r.1.size) (n, row) (enumerate_from (n + 1) rows)
    ∙ ap (λ s. row.size + s) (sum_numbered (n + 1) rows)
    ∙ sym (sum_by-cons (λ r. r.size) row rows)
