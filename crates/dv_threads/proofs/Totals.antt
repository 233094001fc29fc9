-- Sums over sessions by their numbers, and over the list of them.
use Rattle.std.proofs.Common.{◌≡◌, ◌∙◌, ℕ, zero, suc, ◌+◌, ◌-◌, ◌≤◌, List, [], ◌∷◌, length, get_or, refl, ap, arith}
use Rattle.std.specs.List.{sum_by}
use Rattle.std.proofs.lemmas.List.Sums.{sum_by-append}
use Rattle.dv_stories.specs.Stories.{total}

total_same : (n : ℕ) (c d : ℕ → ℕ) → ((i : ℕ) → 1 ≤ i → i ≤ n → c i ≡ d i) → total n c ≡ total n d
total_same zero c d same = refl
total_same (suc n) c d same =
    let last : c (suc n) ≡ d (suc n) = same (suc n) (omega arith) (omega arith) in
    let rest : total n c ≡ total n d = total_same n c d (λ i low high. same i low (omega (arith, high))) in
    omega (arith, last, rest)

total_first : (n : ℕ) (c : ℕ → ℕ) → total (suc n) c ≡ c 1 + total n (λ i. c (i + 1))
total_first zero c = refl
total_first (suc n) c =
    let last : c (suc (suc n)) ≡ c (suc n + 1) = ap c (omega arith) in
    omega (arith, last, total_first n c)

-- the list has them from number 1 on
pub total_list : {X : Type 0} (f : X → ℕ) (d : X) (xs : List X) → total (length xs) (λ i. f (get_or xs (i - 1) d)) ≡ sum_by f xs
total_list f d [] = refl
total_list {X} f d (x ∷ xs) =
    let first = total_first (length xs) (λ i. f (get_or (x ∷ xs) (i - 1) d)) in
    let rest = total_same (length xs) (λ i. f (get_or (x ∷ xs) (i + 1 - 1) d)) (λ i. f (get_or xs (i - 1) d)) (λ i low high. ap f (later i low)) in
    omega (arith, first, rest, total_list f d xs, sum_by-append f (x ∷ []) xs)
  where
    later : (i : ℕ) → 1 ≤ i → get_or (x ∷ xs) (i + 1 - 1) d ≡ get_or xs (i - 1) d
    later zero low = absurd (omega (arith, low))
    later (suc j) low =
        let up : suc j + 1 - 1 ≡ suc j = omega arith in
        let down : j ≡ suc j - 1 = omega arith in
        ap (λ k. get_or (x ∷ xs) k d) up ∙ ap (λ k. get_or xs k d) down
