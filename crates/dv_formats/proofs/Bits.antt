-- The bits of a row's keywords name the keywords.
use Rattle.std.proofs.Common.{◌≡◌, ◌⊎◌, inl, inr, ℕ, suc, ◌+◌, ◌-◌, ◌*◌, ◌/◌, ◌%◌, ◌^◌, ◌<◌, ◌≤◌, true, false, cond, List, [], ◌∷◌, refl, sym, ◌∙◌, ap, subst, arith}
use Rattle.std.specs.Prelude.{min, nat_eq}
use Rattle.std.proofs.lemmas.Bool.{cases_lt}
use Rattle.std.proofs.lemmas.Bool.Decides.{nat_tests}
use Rattle.std.proofs.lemmas.List.Sums.{sum_by-cons}
use Rattle.std.proofs.lemmas.Nat.{pow_pos, pow-add}
use Rattle.std.proofs.Math.Pow.{pow_mono}
use Rattle.dv_formats.specs.Snapshots.{keyword_word}

-- numbers that rise, from n on
abbrev pub Rise : ℕ → List ℕ → Type 0
Rise n [] = Unit {0}
Rise n (k ∷ ks) = (n ≤ k) × Rise (k + 1) ks

-- what one keyword gives to a word
abbrev pub bit_of : ℕ → ℕ → ℕ
bit_of word k = cond (nat_eq (k / 32) word) (2 ^ (k % 32)) 0

pub word_cons : (word k : ℕ) (ks : List ℕ)
    → keyword_word (k ∷ ks) word ≡ bit_of word k + keyword_word ks word
word_cons word k ks = sum_by-cons (bit_of word) k ks

abbrev IsIn : ℕ → ℕ → Type 0
IsIn word k = (32 * word ≤ k) × (k < 32 * word + 32)

bit_in : (word k : ℕ) → IsIn word k → bit_of word k ≡ 2 ^ (k - 32 * word)
bit_in word k inside =
    let place : k / 32 ≡ word = omega (arith, inside.0, inside.1) in
    let test : nat_eq (k / 32) word ≡ true = grind (arith, nat_tests, place) in
    let rest : k % 32 ≡ k - 32 * word = omega (arith, inside.0, inside.1) in
    ap (λ b. cond b (2 ^ (k % 32)) 0) test ∙ ap (λ j. 2 ^ j) rest

bit_out : (word k : ℕ) → (k < 32 * word) ⊎ (32 * word + 32 ≤ k) → bit_of word k ≡ 0
bit_out word k (inl below) =
    let place : k / 32 < word = omega (arith, below) in
    let test : nat_eq (k / 32) word ≡ false = grind (arith, nat_tests, place) in
    ap (λ b. cond b (2 ^ (k % 32)) 0) test
bit_out word k (inr above) =
    let place : word < k / 32 = omega (arith, above) in
    let test : nat_eq (k / 32) word ≡ false = grind (arith, nat_tests, place) in
    ap (λ b. cond b (2 ^ (k % 32)) 0) test

where_is : (word k : ℕ) → IsIn word k ⊎ ((k < 32 * word) ⊎ (32 * word + 32 ≤ k))
where_is word k =
    elim (cases_lt k (32 * word)) [
      | inl below ↦ inr (inl below)
      | inr from ↦ elim (cases_lt k (32 * word + 32)) [ inl below ↦ inl (from, below) | inr above ↦ inr (inr above) ]
    ]

-- ---- a word fits 32 bits

-- the lowest bit of the word that numbers from n on can have
abbrev pub lowest : ℕ → ℕ → ℕ
lowest word n = min (n - 32 * word) 32

fits_step : (top word n k : ℕ) (sum : ℕ) → n ≤ k → sum + 2 ^ lowest word (k + 1) ≤ top
    → IsIn word k ⊎ ((k < 32 * word) ⊎ (32 * word + 32 ≤ k))
    → bit_of word k + sum + 2 ^ lowest word n ≤ top
fits_step top word n k sum le others (inl inside) =
    let bit = bit_in word k inside in
    let next : lowest word (k + 1) ≡ (k - 32 * word) + 1 = omega (arith, inside.0, inside.1) in
    let double : 2 ^ ((k - 32 * word) + 1) ≡ 2 ^ (k - 32 * word) * 2 = pow-add 2 (k - 32 * word) 1 in
    let low : 2 ^ lowest word n ≤ 2 ^ (k - 32 * word) = pow_mono (omega (arith, le, inside.0, inside.1)) in
    let room : sum + 2 ^ (k - 32 * word) * 2 ≤ top = subst (λ p. sum + p ≤ top) (ap (λ j. 2 ^ j) next ∙ double) others in
    omega (arith, bit, low, room)
fits_step top word n k sum le others (inr (inl below)) =
    let bit = bit_out word k (inl below) in
    let next : lowest word (k + 1) ≡ 0 = omega (arith, below) in
    let first : lowest word n ≡ 0 = omega (arith, below, le) in
    let room : sum + 1 ≤ top = subst (λ j. sum + 2 ^ j ≤ top) next others in
    subst (λ j. bit_of word k + sum + 2 ^ j ≤ top) (sym first) (omega (arith, bit, room))
fits_step top word n k sum le others (inr (inr above)) =
    let bit = bit_out word k (inr above) in
    let next : lowest word (k + 1) ≡ 32 = omega (arith, above) in
    let most : lowest word n ≤ 32 = omega arith in
    let low : 2 ^ lowest word n ≤ 2 ^ 32 = pow_mono most in
    let room : sum + 2 ^ 32 ≤ top = subst (λ j. sum + 2 ^ j ≤ top) next others in
    omega (arith, bit, low, room)

fits_from : (word n : ℕ) (ks : List ℕ) → Rise n ks
    → keyword_word ks word + 2 ^ lowest word n ≤ 2 ^ 32
fits_from word n [] rise = let most : lowest word n ≤ 32 = omega arith in let low : 2 ^ lowest word n ≤ 2 ^ 32 = pow_mono most in omega (arith, low)
fits_from word n (k ∷ ks) rise =
    subst (λ sum. sum + 2 ^ lowest word n ≤ 2 ^ 32) (sym (word_cons word k ks)) (fits_step (2 ^ 32) word n k (keyword_word ks word) rise.0 (fits_from word (k + 1) ks rise.1) (where_is word k))

pub word_fits : (word : ℕ) (ks : List ℕ) → Rise 0 ks → keyword_word ks word < 2 ^ 32
word_fits word ks rise = let fits = fits_from word 0 ks rise in let some = pow_pos (lowest word 0) in omega (arith, fits, some)

-- ---- a word of keywords below a bound is below its bit

-- numbers below a bound
abbrev pub Below : ℕ → List ℕ → Type 0
Below n [] = Unit {0}
Below n (k ∷ ks) = (k < n) × Below n ks

below_from : (word bound n : ℕ) (ks : List ℕ) → n ≤ bound → Rise n ks → Below bound ks → keyword_word ks word + 2 ^ lowest word n ≤ 2 ^ lowest word bound
below_from word bound n [] le rise below = let low : 2 ^ lowest word n ≤ 2 ^ lowest word bound = pow_mono (omega (arith, le)) in omega (arith, low)
below_from word bound n (k ∷ ks) le rise below =
    subst (λ sum. sum + 2 ^ lowest word n ≤ 2 ^ lowest word bound) (sym (word_cons word k ks))
    (fits_step (2 ^ lowest word bound) word n k (keyword_word ks word) rise.0 (below_from word bound (k + 1) ks (omega (arith, below.0)) rise.1 below.1) (where_is word k))

pub word_below : (word bound : ℕ) (ks : List ℕ) → Rise 0 ks → Below bound ks → keyword_word ks word < 2 ^ lowest word bound
word_below word bound ks rise below = let fits = below_from word bound 0 ks (omega arith) rise below in let some = pow_pos (lowest word 0) in omega (arith, fits, some)

-- ---- equal words are of equal keywords

-- numbers above k give a multiple of the next bit to the word of k
abbrev IsMultiple : ℕ → ℕ → Type 0
IsMultiple p sum = (c : ℕ) × (sum ≡ p * c)

multiple_step : (word n k sum : ℕ) → 32 * word ≤ n → n ≤ k → IsMultiple (2 ^ (n - 32 * word)) sum
    → IsIn word k ⊎ ((k < 32 * word) ⊎ (32 * word + 32 ≤ k))
    → IsMultiple (2 ^ (n - 32 * word)) (bit_of word k + sum)
multiple_step word n k sum from le multiple (inl inside) =
    let bit = bit_in word k inside in
    let split : k - 32 * word ≡ (n - 32 * word) + (k - n) = omega (arith, from, le) in
    let power : 2 ^ (k - 32 * word) ≡ 2 ^ (n - 32 * word) * 2 ^ (k - n) = ap (λ j. 2 ^ j) split ∙ pow-add 2 (n - 32 * word) (k - n) in
    let p = 2 ^ (n - 32 * word) in
    (2 ^ (k - n) + multiple.0, ap (λ b. b + sum) (bit ∙ power) ∙ ap (λ s. 2 ^ (n - 32 * word) * 2 ^ (k - n) + s) multiple.1 ∙ omega arith)
multiple_step word n k sum from le multiple (inr out) = let none : 0 + sum ≡ sum = omega arith in (multiple.0, ap (λ b. b + sum) (bit_out word k out) ∙ none ∙ multiple.1)

multiple_from : (word n m : ℕ) (ks : List ℕ) → 32 * word ≤ n → n ≤ m → Rise m ks
    → IsMultiple (2 ^ (n - 32 * word)) (keyword_word ks word)
multiple_from word n m [] from le rise = (0, omega arith)
multiple_from word n m (k ∷ ks) from le rise =
    subst (IsMultiple (2 ^ (n - 32 * word))) (sym (word_cons word k ks))
    (multiple_step word n k (keyword_word ks word) from (omega (arith, le, rise.0)) (multiple_from word n (k + 1) ks from (omega (arith, le, rise.0)) rise.1) (where_is word k))

-- a bit is no multiple of the next one
no_multiple : (p c d : ℕ) → 0 < p → p + p * 2 * c ≡ p * 2 * d → ⊥
no_multiple p c d some e = by_order (cases_lt c d)
  where
    by_order : (c < d) ⊎ (d ≤ c) → ⊥
    by_order (inl less) =
        let gap : d ≡ c + suc (d - suc c) = omega (arith, less) in
        let more : p * 2 * d ≡ p * 2 * c + p * 2 + p * 2 * (d - suc c) = ap (λ x. p * 2 * x) gap ∙ omega arith in
        omega (arith, e, more, some)
    by_order (inr le) =
        let gap : c ≡ d + (c - d) = omega (arith, le) in
        let more : p * 2 * c ≡ p * 2 * d + p * 2 * (c - d) = ap (λ x. p * 2 * x) gap ∙ omega arith in
        omega (arith, e, more, some)

-- the first keyword of one list is in no list that begins above it
first_differs : (k : ℕ) (ks others : List ℕ) → Rise (k + 1) ks → Rise (k + 1) others
    → keyword_word (k ∷ ks) (k / 32) ≡ keyword_word others (k / 32) → ⊥
first_differs k ks others rise rise' same =
    let word = k / 32 in
    let inside : IsIn (k / 32) k = (omega arith, omega arith) in
    let from : 32 * (k / 32) ≤ k + 1 = omega arith in
    let one = multiple_from (k / 32) (k + 1) (k + 1) ks from (omega arith) rise in
    let other = multiple_from (k / 32) (k + 1) (k + 1) others from (omega arith) rise' in
    let place : (k + 1) - 32 * (k / 32) ≡ (k - 32 * (k / 32)) + 1 = omega arith in
    let double : 2 ^ ((k + 1) - 32 * (k / 32)) ≡ 2 ^ (k - 32 * (k / 32)) * 2 = ap (λ j. 2 ^ j) place ∙ pow-add 2 (k - 32 * (k / 32)) 1 in
    let left : keyword_word (k ∷ ks) (k / 32) ≡ 2 ^ (k - 32 * (k / 32)) + 2 ^ (k - 32 * (k / 32)) * 2 * one.0 =
    word_cons (k / 32) k ks ∙ ap (λ b. b + keyword_word ks (k / 32)) (bit_in (k / 32) k inside) ∙ ap (λ s. 2 ^ (k - 32 * (k / 32)) + s) (one.1 ∙ ap (λ p. p * one.0) double) in
    let right : keyword_word others (k / 32) ≡ 2 ^ (k - 32 * (k / 32)) * 2 * other.0 = other.1 ∙ ap (λ p. p * other.0) double in
    no_multiple (2 ^ (k - 32 * (k / 32))) one.0 other.0 (pow_pos (k - 32 * (k / 32))) (sym left ∙ same ∙ right)

same_tail : (k : ℕ) (ks ks' : List ℕ) (word : ℕ)
    → keyword_word (k ∷ ks) word ≡ keyword_word (k ∷ ks') word
    → keyword_word ks word ≡ keyword_word ks' word
same_tail k ks ks' word same = let one = word_cons word k ks in let other = word_cons word k ks' in omega (arith, one, other, same)

-- keywords whose words are equal are equal; words stands for all words that they have
pub bits_one : (words n : ℕ) (ks ks' : List ℕ) → Rise n ks → Rise n ks' → Below (32 * words) ks
    → Below (32 * words) ks'
    → ((word : ℕ) → word < words → keyword_word ks word ≡ keyword_word ks' word) → ks ≡ ks'
bits_one words n [] [] rise rise' below below' same = refl
bits_one words n [] (k ∷ ks') rise rise' below below' same =
    let word_below : k / 32 < words = omega (arith, below'.0) in
    absurd (first_differs k ks' [] rise'.1 tt (sym (same (k / 32) word_below)))
bits_one words n (k ∷ ks) [] rise rise' below below' same =
    let word_below : k / 32 < words = omega (arith, below.0) in
    absurd (first_differs k ks [] rise.1 tt (same (k / 32) word_below))
bits_one words n (k ∷ ks) (k' ∷ ks') rise rise' below below' same =
    elim (cases_lt k k') [
      | inl less ↦ let word_below : k / 32 < words = omega (arith, below.0) in absurd (first_differs k ks (k' ∷ ks') rise.1 (omega (arith, less), rise'.1) (same (k / 32) word_below))
      | inr le ↦ elim (cases_lt k' k) [
        | inl less ↦ let word_below : k' / 32 < words = omega (arith, below'.0) in absurd (first_differs k' ks' (k ∷ ks) rise'.1 (omega (arith, less), rise.1) (sym (same (k' / 32) word_below)))
        | inr ge ↦
            let equal : k ≡ k' = omega (arith, le, ge) in
            let behind : Rise (k + 1) ks' = subst (λ j. Rise (j + 1) ks') (sym equal) rise'.1 in
            let tails : (word : ℕ) → word < words → keyword_word ks word ≡ keyword_word ks' word = λ word inside. same_tail k ks ks' word (same word inside ∙ ap (λ j. keyword_word (j ∷ ks') word) (sym equal)) in
            ap (λ j. j ∷ ks) equal ∙ ap (λ js. k' ∷ js) (bits_one words (k + 1) ks ks' rise.1 behind below.1 below'.1 tails)
      ]
    ]
