-- A row's places in the table of keywords stay in order.
use Rattle.std.proofs.Common.{◌≡◌, ℕ, zero, suc, ◌+◌, ◌<◌, ◌≤◌, Bool, true, false, cond, not, List, [], ◌∷◌, length, get_or, nat_eq, nat_lt, refl, subst, arith}
use Rattle.std.specs.Prelude.{All}
use Rattle.std.specs.List.Sorted.{IsStrictlyIncreasing}
use Rattle.std.proofs.lemmas.Bool.Decides.{nat_tests}
use Rattle.std.proofs.lemmas.List.Elements.{All-cons, All-filter, All-head, All-nil, All-tail}
use Rattle.std.proofs.lemmas.List.Kept.{IsStrictlyIncreasing-filter}
use Rattle.dv_model.specs.declared.types.How.{How}
use Rattle.dv_model.specs.declared.types.How.TheVariants.{Add, Remove, Replace}
use Rattle.dv_model.specs.Effects.{keywords_after, with_place}
use Rattle.dv_model.proofs.Clients.{rising_tail}

-- ---- rising, from n on

abbrev Above : ℕ → List ℕ → Type 0
Above n [] = Unit {0}
Above n (x ∷ xs) = (n ≤ x) × Above (x + 1) xs

above_behind : (x : ℕ) (xs : List ℕ) → IsStrictlyIncreasing (x ∷ xs) → Above (x + 1) xs
above_behind x [] up = tt
above_behind x (y ∷ ys) up = let step = up 0 (omega arith) in (omega (arith, step), above_behind y ys (rising_tail x (y ∷ ys) up))

above_of_rising : (xs : List ℕ) → IsStrictlyIncreasing xs → Above 0 xs
above_of_rising [] rising = tt
above_of_rising (x ∷ xs) rising = (omega arith, above_behind x xs rising)

rising_of_above : (n : ℕ) (xs : List ℕ) → Above n xs → (k : ℕ) → suc k < length xs → get_or xs k 0 < get_or xs (suc k) 0
rising_of_above n [] above k h = absurd (omega arith)
rising_of_above n (x ∷ []) above k h = absurd (omega arith)
rising_of_above n (x ∷ y ∷ ys) above zero h = let le = above.1.0 in omega arith
rising_of_above n (x ∷ y ∷ ys) above (suc k) h = rising_of_above (x + 1) (y ∷ ys) above.1 k (omega arith)

rising_from : (xs : List ℕ) → Above 0 xs → IsStrictlyIncreasing xs
rising_from xs above k h =
    let next : suc k ≡ k + 1 = omega arith in
    subst (λ j. get_or xs k 0 < get_or xs j 0) next (rising_of_above 0 xs above k (omega arith))

-- ---- one place more

place_by_equal : (n k p : ℕ) (ps : List ℕ) → n ≤ k → p ≤ k → Above n (p ∷ ps) → (p < k → Above (p + 1) (with_place k ps))
    → (b : Bool) → nat_eq k p ≡ b → Above n (cond b (p ∷ ps) (p ∷ with_place k ps))
place_by_equal n k p ps low le above later true e = above
place_by_equal n k p ps low le above later false e = (above.0, later (grind (arith, nat_tests)))

place_by_less : (n k p : ℕ) (ps : List ℕ) → n ≤ k → Above n (p ∷ ps) → (p < k → Above (p + 1) (with_place k ps))
    → (b : Bool) → nat_lt k p ≡ b → Above n (cond b (k ∷ p ∷ ps) (cond (nat_eq k p) (p ∷ ps) (p ∷ with_place k ps)))
place_by_less n k p ps low above later true e = (low, (grind (arith, nat_tests), above.1))
place_by_less n k p ps low above later false e = place_by_equal n k p ps low (grind (arith, nat_tests)) above later (nat_eq k p) refl

place_above : (n k : ℕ) (ps : List ℕ) → n ≤ k → Above n ps → Above n (with_place k ps)
place_above n k [] low above = (low, tt)
place_above n k (p ∷ ps) low above = place_by_less n k p ps low above (λ less. place_above (p + 1) k ps (omega arith) above.1) (nat_lt k p) refl

all_by : (P : ℕ → Type 0) (b c : Bool) (k p : ℕ) (ps qs : List ℕ) → P k → P p → All P ps → All P qs → All P (cond b (k ∷ p ∷ ps) (cond c (p ∷ ps) (p ∷ qs)))
all_by P true c k p ps qs pk pp each more = All-cons P k (p ∷ ps) pk (All-cons P p ps pp each)
all_by P false true k p ps qs pk pp each more = All-cons P p ps pp each
all_by P false false k p ps qs pk pp each more = All-cons P p qs pp more

place_all : (P : ℕ → Type 0) (k : ℕ) (ps : List ℕ) → P k → All P ps → All P (with_place k ps)
place_all P k [] here each = All-cons P k [] here (All-nil P)
place_all P k (p ∷ ps) here each =
    all_by P (nat_lt k p) (nat_eq k p) k p ps (with_place k ps) here (All-head P p ps each) (All-tail P p ps each) (place_all P k ps here (All-tail P p ps each))

-- ---- any change

one_rises : (k : ℕ) → IsStrictlyIncreasing (k ∷ [])
one_rises k j h = absurd (omega arith)

pub after_rises : (how : How) (k : ℕ) (ps : List ℕ) → IsStrictlyIncreasing ps → IsStrictlyIncreasing (keywords_after how k ps)
after_rises Add k ps rising = rising_from (with_place k ps) (place_above 0 k ps (omega arith) (above_of_rising ps rising))
after_rises Remove k ps rising = IsStrictlyIncreasing-filter (λ p. not (nat_eq p k)) ps rising
after_rises Replace k ps rising = one_rises k

pub after_all : (P : ℕ → Type 0) (how : How) (k : ℕ) (ps : List ℕ) → P k → All P ps → All P (keywords_after how k ps)
after_all P Add k ps here each = place_all P k ps here each
after_all P Remove k ps here each = All-filter (λ p. not (nat_eq p k)) P ps each
after_all P Replace k ps here each = All-cons P k [] here (All-nil P)
