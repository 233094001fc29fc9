-- Beginnings of one list.
use Rattle.std.proofs.Common.{◌≡◌, ◌⊎◌, ℕ, zero, suc, ◌<◌, ◌≤◌, Bool, true, false, List, [], ◌∷◌, ◌++◌, length, take, set, inl, inr, refl, ap, sym, ◌∙◌, arith, append_assoc, length-append}
use Rattle.std.specs.Prelude.{slice_index, nat_le, if◌then◌else◌}
use Rattle.std.proofs.lemmas.List.{append-nil}
use mathlib.Core.List.{IsPrefix}
use Rattle.dv_front.specs.Lists.{longer}

pub prefix_self : {A : Type 0} (xs : List A) → IsPrefix xs xs
prefix_self xs = ([], append-nil xs)

pub prefix_nil : {A : Type 0} (xs : List A) → IsPrefix [] xs
prefix_nil xs = (xs, refl)

pub prefix_trans : {A : Type 0} (xs ys zs : List A) → IsPrefix xs ys → IsPrefix ys zs → IsPrefix xs zs
prefix_trans xs ys zs p q = (p.0 ++ q.0, sym (append_assoc xs p.0 q.0) ∙ (ap (λ w. w ++ q.0) p.1 ∙ q.1))

-- of two beginnings of one list the shorter begins the longer
pub prefix_shorter : {A : Type 0} (xs ys zs : List A) → IsPrefix xs zs → IsPrefix ys zs → length xs ≤ length ys → IsPrefix xs ys
prefix_shorter [] ys zs p q le = (ys, refl)
prefix_shorter (x ∷ xs) [] zs p q le = absurd (omega arith)
prefix_shorter (x ∷ xs) (y ∷ ys) [] p q le = absurd (cc (p.1))
prefix_shorter (x ∷ xs) (y ∷ ys) (z ∷ zs) p q le =
    let heads : x ≡ y = cc (p.1, q.1) in
    let rest = prefix_shorter xs ys zs (p.0, cc (p.1)) (q.0, cc (q.1)) (omega arith) in
    (rest.0, cc (heads, rest.1))

pub prefix_whole : {A : Type 0} (xs ys : List A) → IsPrefix xs ys → length ys ≤ length xs → xs ≡ ys
prefix_whole [] [] p le = refl
prefix_whole [] (y ∷ ys) p le = absurd (omega arith)
prefix_whole (x ∷ xs) [] p le = absurd (cc (p.1))
prefix_whole (x ∷ xs) (y ∷ ys) p le = let rest = prefix_whole xs ys (p.0, cc (p.1)) (omega arith) in cc (p.1, rest)

pub prefix_length : {A : Type 0} (xs ys : List A) → IsPrefix xs ys → length xs ≤ length ys
prefix_length xs ys p = omega (arith, sym (ap length p.1) ∙ length-append xs p.0)

pub prefix_both : {A : Type 0} (xs ys : List A) → IsPrefix xs ys → IsPrefix ys xs → xs ≡ ys
prefix_both xs ys p q = prefix_whole xs ys p (prefix_length ys xs q)

pub prefix_take : {A : Type 0} (n : ℕ) (xs : List A) → IsPrefix (take n xs) xs
prefix_take zero xs = (xs, refl)
prefix_take (suc n) [] = ([], refl)
prefix_take (suc n) (x ∷ xs) = let rest = prefix_take n xs in (rest.0, ap (λ ys. x ∷ ys) rest.1)

pub index_prefix : (xs ys : List ℕ) (k : ℕ) → IsPrefix xs ys → k < length xs → slice_index ys k ≡ slice_index xs k
index_prefix [] ys k p lt = absurd (omega arith)
index_prefix (x ∷ xs) [] k p lt = absurd (cc (p.1))
index_prefix (x ∷ xs) (y ∷ ys) zero p lt = cc (p.1)
index_prefix (x ∷ xs) (y ∷ ys) (suc k) p lt = index_prefix xs ys k (p.0, cc (p.1)) (omega arith)

pub set_index : (ws : List ℕ) (i : ℕ) → set ws i (slice_index ws i) ≡ ws
set_index [] i = refl
set_index (x ∷ xs) zero = refl
set_index (x ∷ xs) (suc i) = ap (λ ys. x ∷ ys) (set_index xs i)

-- the first of the rest is written
pub set_end : (put : List ℕ) (r : ℕ) (rs : List ℕ) (n : ℕ) → set (put ++ r ∷ rs) (length put) n ≡ (put ++ n ∷ []) ++ rs
set_end [] r rs n = refl
set_end (x ∷ xs) r rs n = ap (λ ys. x ∷ ys) (set_end xs r rs n)

-- what holds of either where it is the longer holds of the longer
pub longer_cases : {A : Type 0} (P : List A → Type 0) (xs ys : List A) → (length ys ≤ length xs → P xs) → (length xs ≤ length ys → P ys) → P (longer xs ys)
longer_cases {A} P xs ys l r = cases (nat_le (length ys) (length xs)) refl
  where
    cases : (b : Bool) → nat_le (length ys) (length xs) ≡ b → P (if b then xs else ys)
    cases true e = l (grind arith)
    cases false e = r (grind arith)

-- the longer of two beginnings of one list begins with both, and begins the list
pub longer_left : {A : Type 0} (xs ys zs : List A) → IsPrefix xs zs → IsPrefix ys zs → IsPrefix xs (longer xs ys)
longer_left {A} xs ys zs p q = longer_cases (λ (l : List A). IsPrefix xs l) xs ys (λ _. prefix_self xs) (λ le. prefix_shorter xs ys zs p q le)

pub longer_right : {A : Type 0} (xs ys zs : List A) → IsPrefix xs zs → IsPrefix ys zs → IsPrefix ys (longer xs ys)
longer_right {A} xs ys zs p q = longer_cases (λ (l : List A). IsPrefix ys l) xs ys (λ le. prefix_shorter ys xs zs q p le) (λ _. prefix_self ys)

pub either_begins : {A : Type 0} (xs ys zs : List A) → IsPrefix xs zs → IsPrefix ys zs → IsPrefix xs ys ⊎ IsPrefix ys xs
either_begins {A} xs ys zs p q = longer_cases (λ (l : List A). IsPrefix xs ys ⊎ IsPrefix ys xs) xs ys (λ le. inr (prefix_shorter ys xs zs q p le)) (λ le. inl (prefix_shorter xs ys zs p q le))
