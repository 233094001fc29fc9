-- Places counted by who has them: where they are as many as there are, each is somebody's.
use Rattle.std.proofs.Common.{◌≡◌, ℕ, zero, suc, ◌+◌, ◌<◌, ◌≤◌, Bool, true, false, ◌||◌, List, [], ◌∷◌, length, nat_eq, Some, refl, sym, ◌∙◌, ap, subst, arith}
use Rattle.std.specs.Prelude.{slice_get, if◌then◌else◌}
use Rattle.std.proofs.lemmas.Bool.Decides.{nat_tests}
use Rattle.dv_stories.specs.Stories.{total}

-- ---- places that pass a test

-- how many places of a list pass
abbrev pub count_at : {X : Type 0} → (ℕ → Bool) → List X → ℕ
count_at test [] = 0
count_at test (x ∷ xs) = (if test 0 then 1 else 0) + count_at (λ k. test (suc k)) xs

-- how many of the first n tests, from 1, one place passes
abbrev pass_at : ℕ → (ℕ → ℕ → Bool) → ℕ → ℕ
pass_at zero tests k = 0
pass_at (suc n) tests k = (if tests (suc n) k then 1 else 0) + pass_at n tests k

-- a place passes only its author's test
abbrev pub OwnOnly : ℕ → (ℕ → ℕ → Bool) → List ℕ → Type 0
OwnOnly n tests authors = (i k : ℕ) → 1 ≤ i → i ≤ n → tests i k ≡ true → slice_get authors k ≡ Some i

by_place : (n : ℕ) (tests : ℕ → ℕ → Bool) (a : ℕ) (authors : List ℕ)
    → total n (λ i. count_at (tests i) (a ∷ authors)) ≡ pass_at n tests 0 + total n (λ i. count_at (λ k. tests i (suc k)) authors)
by_place zero tests a authors = refl
by_place (suc n) tests a authors = omega (arith, by_place n tests a authors)

module _ (tests : ℕ → ℕ → Bool) (k a : ℕ) where
  abbrev Once : ℕ → Type 0
  Once n = (i : ℕ) → 1 ≤ i → i ≤ n → tests i k ≡ true → a ≡ i

  once_less : (n : ℕ) → Once (suc n) → Once n
  once_less n once i low high is = once i low (omega arith) is

  none_past : (n : ℕ) → Once n → n < a → pass_at n tests k ≡ 0
  none_past zero once past = refl
  none_past (suc n) once past = by_test (none_past n (once_less n once) (omega arith)) (tests (suc n) k) refl
    where
      by_test : pass_at n tests k ≡ 0 → (b : Bool) → tests (suc n) k ≡ b → (if b then 1 else 0) + pass_at n tests k ≡ 0
      by_test rest true is = absurd (let e = once (suc n) (omega arith) (omega arith) is in omega arith)
      by_test rest false is = omega (arith, rest)

  most_one : (n : ℕ) → Once n → pass_at n tests k ≤ 1
  most_one zero once = omega arith
  most_one (suc n) once = by_test (most_one n (once_less n once)) (tests (suc n) k) refl
    where
      by_test : pass_at n tests k ≤ 1 → (b : Bool) → tests (suc n) k ≡ b → (if b then 1 else 0) + pass_at n tests k ≤ 1
      by_test less true is = let e = once (suc n) (omega arith) (omega arith) is in let rest = none_past n (once_less n once) (omega arith) in omega arith
      by_test less false is = omega (arith, less)

  is_counted : (n : ℕ) → Once n → pass_at n tests k ≡ 1 → (1 ≤ a) × (a ≤ n) × (tests a k ≡ true)
  is_counted zero once all = absurd (omega arith)
  is_counted (suc n) once all = by_test (is_counted n (once_less n once)) (tests (suc n) k) refl all
    where
      by_test : (pass_at n tests k ≡ 1 → (1 ≤ a) × (a ≤ n) × (tests a k ≡ true)) → (b : Bool) → tests (suc n) k ≡ b → (if b then 1 else 0) + pass_at n tests k ≡ 1 → (1 ≤ a) × (a ≤ suc n) × (tests a k ≡ true)
      by_test less true is one = let e = once (suc n) (omega arith) (omega arith) is in (omega arith, omega arith, subst (λ (i : ℕ). tests i k ≡ true) (sym e) is)
      by_test less false is one = let rest = less (omega (arith, one)) in let low = rest.1 in (rest.0, omega arith, rest.2)

-- no more pass than there are places
no_more : (n : ℕ) (tests : ℕ → ℕ → Bool) (authors : List ℕ) → OwnOnly n tests authors → total n (λ i. count_at (tests i) authors) ≤ length authors
no_more n tests [] own = none n
  where
    none : (n : ℕ) → total n (λ i. count_at {X = ℕ} (tests i) []) ≤ 0
    none zero = omega arith
    none (suc n) = omega (arith, none n)
no_more n tests (a ∷ authors) own =
    let first = most_one tests 0 a n (λ i low high is. cc (own i 0 low high is)) in
    let rest = no_more n (λ i k. tests i (suc k)) authors (λ i k low high is. own i (suc k) low high is) in
    omega (arith, by_place n tests a authors, first, rest)

-- where as many pass as there are places, each place passes its author's test
pub all_counted : (n : ℕ) (tests : ℕ → ℕ → Bool) (authors : List ℕ) → OwnOnly n tests authors → total n (λ i. count_at (tests i) authors) ≡ length authors
    → (k a : ℕ) → slice_get authors k ≡ Some a → (1 ≤ a) × (a ≤ n) × (tests a k ≡ true)
all_counted n tests [] own all k a there = absurd cc
all_counted n tests (b ∷ authors) own all k a there = by_k (all_counted n (λ i l. tests i (suc l)) authors (λ i l low high is. own i (suc l) low high is)) k there
  where
    once : Once tests 0 b n
    once i low high is = cc (own i 0 low high is)

    first : pass_at n tests 0 ≤ 1
    first = most_one tests 0 b n once

    rest : total n (λ i. count_at (λ j. tests i (suc j)) authors) ≤ length authors
    rest = no_more n (λ i j. tests i (suc j)) authors (λ i j low high is. own i (suc j) low high is)

    sum : pass_at n tests 0 + total n (λ i. count_at (λ j. tests i (suc j)) authors) ≡ length authors + 1
    sum = omega (arith, by_place n tests b authors, all)

    by_k : (total n (λ i. count_at (λ l. tests i (suc l)) authors) ≡ length authors → (k a : ℕ) → slice_get authors k ≡ Some a → (1 ≤ a) × (a ≤ n) × (tests a (suc k) ≡ true))
        → (j : ℕ) → slice_get (b ∷ authors) j ≡ Some a → (1 ≤ a) × (a ≤ n) × (tests a j ≡ true)
    by_k behind zero at = let same : b ≡ a = cc at in subst (λ (x : ℕ). (1 ≤ x) × (x ≤ n) × (tests x 0 ≡ true)) same (is_counted tests 0 b n once (omega (arith, first, rest, sum)))
    by_k behind (suc j) at = behind (omega (arith, first, rest, sum)) j a at

-- ---- places of a rising list

-- the list has the place
abbrev pub has : List ℕ → ℕ → Bool
has [] k = false
has (p ∷ places) k = nat_eq k p || has places k

-- each place is above the one before it, and the first no lower than this
abbrev pub Rises : ℕ → List ℕ → Type 0
Rises low [] = Unit {0}
Rises low (p ∷ places) = (low ≤ p) × Rises (p + 1) places

-- this holds of each place
abbrev pub Each : (ℕ → Type 0) → List ℕ → Type 0
Each Q [] = Unit {0}
Each Q (p ∷ places) = Q p × Each Q places

pub rises_lower : (low more : ℕ) (places : List ℕ) → low ≤ more → Rises more places → Rises low places
rises_lower low more [] le rises = tt
rises_lower low more (p ∷ places) le rises = (let first = rises.0 in omega arith, rises.1)

pub has_each : (Q : ℕ → Type 0) (places : List ℕ) (k : ℕ) → Each Q places → has places k ≡ true → Q k
has_each Q [] k each is = absurd cc
has_each Q (p ∷ places) k each is = by_test (λ rest. has_each Q places k each.1 rest) (nat_eq k p) refl is
  where
    by_test : (has places k ≡ true → Q k) → (b : Bool) → nat_eq k p ≡ b → (b || has places k) ≡ true → Q k
    by_test later true same is = let e : k ≡ p = grind (arith, nat_tests) in subst Q (sym e) each.0
    by_test later false other is = later is

pub has_above : (low : ℕ) (places : List ℕ) (k : ℕ) → Rises low places → k < low → has places k ≡ false
has_above low [] k rises less = refl
has_above low (p ∷ places) k rises less =
    let first = rises.0 in
    let other : nat_eq k p ≡ false = grind (arith, nat_tests) in
    rw other (has_above (p + 1) places k rises.1 (omega arith))

count_same : {X : Type 0} (one other : ℕ → Bool) (xs : List X) → ((k : ℕ) → one k ≡ other k) → count_at one xs ≡ count_at other xs
count_same one other [] same = refl
count_same one other (x ∷ xs) same =
    ap (λ (b : Bool). (if b then 1 else 0) + count_at (λ k. one (suc k)) xs) (same 0)
    ∙ ap (λ (n : ℕ). (if other 0 then 1 else 0) + n) (count_same (λ k. one (suc k)) (λ k. other (suc k)) xs (λ k. same (suc k)))

count_none : {X : Type 0} (xs : List X) → count_at (λ k. false) xs ≡ 0
count_none [] = refl
count_none (x ∷ xs) = omega (arith, count_none xs)

-- one place more passes
count_more : {X : Type 0} (test : ℕ → Bool) (p : ℕ) (xs : List X) → p < length xs → test p ≡ false → count_at (λ k. nat_eq k p || test k) xs ≡ count_at test xs + 1
count_more test p [] less none = absurd (omega (arith, less))
count_more test zero (x ∷ xs) less none =
    let same = count_same (λ k. nat_eq (suc k) 0 || test (suc k)) (λ k. test (suc k)) xs (λ k. let other : nat_eq (suc k) 0 ≡ false = grind (arith, nat_tests) in rw other refl) in
    rw none (omega (arith, same))
count_more test (suc p) (x ∷ xs) less none =
    let same = count_same (λ k. nat_eq (suc k) (suc p) || test (suc k)) (λ k. nat_eq k p || test (suc k)) xs (λ k. ap (λ (b : Bool). b || test (suc k)) (shifted k p)) in
    let rest = count_more (λ k. test (suc k)) p xs (omega (arith, less)) none in
    let first : nat_eq 0 (suc p) ≡ false = grind (arith, nat_tests) in
    rw first (omega (arith, same, rest))
  where
    shifted : (k p : ℕ) → nat_eq (suc k) (suc p) ≡ nat_eq k p
    shifted k p = by_test (nat_eq k p) refl
      where
        by_test : (b : Bool) → nat_eq k p ≡ b → nat_eq (suc k) (suc p) ≡ b
        by_test true is = grind (arith, nat_tests)
        by_test false is = grind (arith, nat_tests)

-- a rising list has as many places as it is long
pub count_places : {X : Type 0} (low : ℕ) (places : List ℕ) (xs : List X) → Rises low places → Each (λ k. k < length xs) places → count_at (has places) xs ≡ length places
count_places low [] xs rises within = count_none xs
count_places low (p ∷ places) xs rises within =
    let rest = count_places (p + 1) places xs rises.1 within.1 in
    let more = count_more (has places) p xs within.0 (has_above (p + 1) places p rises.1 (omega arith)) in
    omega (arith, rest, more)
