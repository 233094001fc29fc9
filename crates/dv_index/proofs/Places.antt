-- The places of a row's keywords are read from bits.
use Rattle.std.proofs.Common.{◌≡◌, ◌⊎◌, inl, inr, ℕ, zero, suc, ◌+◌, ◌*◌, ◌/◌, ◌%◌, ◌^◌, ◌<◌, ◌≤◌, List, [], ◌∷◌, ◌++◌, length, take, drop, get_or, All, refl, sym, ◌∙◌, ap, subst, arith}
use Rattle.std.specs.Prelude.{flat_map}
use Rattle.std.specs.Int.{w32, to_le_bytes, from_le_bytes}
use Rattle.std.specs.List.{AllByRecursion, range_with_len}
use Rattle.std.specs.List.Sorted.{IsStrictlyIncreasing}
use Rattle.std.proofs.lemmas.Bool.{cases_lt, cases_order}
use Rattle.std.proofs.lemmas.List.{drop-drop, drop_all, get_or_append_left, get_or_at, length_push, take-append-drop}
use Rattle.std.proofs.lemmas.List.Elements.{All-push}
use Rattle.std.proofs.lemmas.List.FromFn.{get_or-range_with_len, length-range_with_len}
use Rattle.std.proofs.lemmas.List.Sums.{sum_by_push}
use Rattle.std.proofs.lemmas.Nat.{from_le_bytes-to_le_bytes_4, mod-pow-add, pow_pos}
use Rattle.std.proofs.Math.Nat.{div-eq_of_lt, lt-div-mul-add, mod-eq_of_lt}
use Rattle.dv_formats.specs.Snapshots.{keyword_bits, keyword_word, keyword_words}
use Rattle.dv_formats.specs.SnapshotFaults.{word_at}
use Rattle.dv_formats.proofs.Bits.{bit_of, lowest, word_below, word_fits}
use Rattle.dv_formats.proofs.Passed.{IsBytes, word_small, word_there}
use Rattle.dv_formats.proofs.Passing.{record_of}
use Rattle.dv_formats.proofs.Wholes.{below_of, rise_of}
use Rattle.dv_index.specs.Reading.{ArePlaces, HasBitPast}
use Rattle.dv_index.proofs.Bitmaps.{other_bit, own_bit}

-- the places among the first ones whose bit is set
pub record AreSet (bits : List ℕ) (done : ℕ) (places : List ℕ) : Type 0 where
  pub rising : IsStrictlyIncreasing places
  pub below : All (λ k. k < done) places
  pub each : (word : ℕ) → keyword_word places word ≡ word_at (4 * word) bits % 2 ^ lowest word done

pub starts : (bits : List ℕ) → AreSet bits 0 []
starts bits = record {
  rising = λ k below. absurd (omega (arith, below));
  below = λ k d below. absurd (omega (arith, below));
  each = λ word. let none : lowest word 0 ≡ 0 = omega arith in subst (λ j. 0 ≡ word_at (4 * word) bits % 2 ^ j) (sym none) (omega arith);
}

own_step : (w k : ℕ) → w % 2 ^ lowest (k / 32) (k + 1) ≡ (w / 2 ^ (k % 32) % 2) * 2 ^ (k % 32) + w % 2 ^ lowest (k / 32) k
own_step w k =
    let next : lowest (k / 32) (k + 1) ≡ 1 + k % 32 = omega arith in
    let here : lowest (k / 32) k ≡ k % 32 = omega arith in
    ap (λ j. w % 2 ^ j) next ∙ mod-pow-add w 1 (k % 32) ∙ ap (λ j. (w / 2 ^ (k % 32) % 2) * 2 ^ (k % 32) + w % 2 ^ j) (sym here)

other_step : (word k : ℕ) → (k / 32 ≡ word → ⊥) → lowest word (k + 1) ≡ lowest word k
other_step word k other =
    elim (cases_order (k / 32) word) [
      | inl same ↦ absurd (other same)
      | inr (inl less) ↦ omega (arith, less)
      | inr (inr more) ↦ omega (arith, more)
    ]

all_more : (k : ℕ) (places : List ℕ) → All (λ p. p < k) places → All (λ p. p < k + 1) places
all_more k places all = λ i d below. let low = all i d below in omega (arith, low)

push_rising : (k : ℕ) (places : List ℕ) → IsStrictlyIncreasing places → All (λ p. p < k) places → IsStrictlyIncreasing (places ++ k ∷ [])
push_rising k places up all i below =
    let long = length_push places k in
    let low : i < length places = omega (arith, below, long) in
    let here = get_or_append_left places (k ∷ []) 0 i low in
    elim (cases_lt (i + 1) (length places)) [
      | inl inside ↦ let next = get_or_append_left places (k ∷ []) 0 (i + 1) inside in let step = up i inside in omega (arith, here, next, step)
      | inr end ↦ let last : length places ≡ i + 1 = omega (arith, low, end) in let next = get_or_at places k [] 0 (i + 1) last in let small = all i 0 low in omega (arith, here, next, small)
    ]

pub set_step : (bits places : List ℕ) (k : ℕ) → AreSet bits k places → word_at (4 * (k / 32)) bits / 2 ^ (k % 32) % 2 ≡ 1 → AreSet bits (k + 1) (places ++ k ∷ [])
set_step bits places k is set = record {
  rising = push_rising k places is.rising is.below;
  below = All-push (λ p. p < k + 1) places k (all_more k places is.below) (omega arith);
  each = λ word. by_word word (cases_order (k / 32) word);
}
  where
    own : keyword_word (places ++ k ∷ []) (k / 32) ≡ word_at (4 * (k / 32)) bits % 2 ^ lowest (k / 32) (k + 1)
    own =
        let more = sum_by_push (bit_of (k / 32)) places k in
        let step = own_step (word_at (4 * (k / 32)) bits) k in
        let before = is.each (k / 32) in
        let bit = own_bit k in
        let one : (word_at (4 * (k / 32)) bits / 2 ^ (k % 32) % 2) * 2 ^ (k % 32) ≡ 2 ^ (k % 32) = ap (λ x. x * 2 ^ (k % 32)) set ∙ omega arith in
        omega (arith, more, step, before, bit, one)

    other : (word : ℕ) → (k / 32 ≡ word → ⊥) → keyword_word (places ++ k ∷ []) word ≡ word_at (4 * word) bits % 2 ^ lowest word (k + 1)
    other word no_word =
        let more = sum_by_push (bit_of word) places k in
        let none = other_bit word k no_word in
        let before = is.each word in
        let same = ap (λ j. word_at (4 * word) bits % 2 ^ j) (sym (other_step word k no_word)) in
        omega (arith, more, none) ∙ before ∙ same

    by_word : (word : ℕ) → (k / 32 ≡ word) ⊎ ((k / 32 < word) ⊎ (word < k / 32)) → keyword_word (places ++ k ∷ []) word ≡ word_at (4 * word) bits % 2 ^ lowest word (k + 1)
    by_word word (inl same) = subst (λ w. keyword_word (places ++ k ∷ []) w ≡ word_at (4 * w) bits % 2 ^ lowest w (k + 1)) same own
    by_word word (inr (inl less)) = other word (λ e. omega (arith, e, less))
    by_word word (inr (inr more)) = other word (λ e. omega (arith, e, more))

pub unset_step : (bits places : List ℕ) (k : ℕ) → AreSet bits k places → (word_at (4 * (k / 32)) bits / 2 ^ (k % 32) % 2 ≡ 1 → ⊥) → AreSet bits (k + 1) places
unset_step bits places k is unset = record {
  rising = is.rising;
  below = all_more k places is.below;
  each = λ word. by_word word (cases_order (k / 32) word);
}
  where
    own : keyword_word places (k / 32) ≡ word_at (4 * (k / 32)) bits % 2 ^ lowest (k / 32) (k + 1)
    own =
        let step = own_step (word_at (4 * (k / 32)) bits) k in
        let zero_bit : word_at (4 * (k / 32)) bits / 2 ^ (k % 32) % 2 ≡ 0 = bit_cases (word_at (4 * (k / 32)) bits / 2 ^ (k % 32)) unset in
        let none : (word_at (4 * (k / 32)) bits / 2 ^ (k % 32) % 2) * 2 ^ (k % 32) ≡ 0 = ap (λ x. x * 2 ^ (k % 32)) zero_bit ∙ omega arith in
        let before = is.each (k / 32) in
        omega (arith, step, before, none)
      where
        bit_cases : (n : ℕ) → (n % 2 ≡ 1 → ⊥) → n % 2 ≡ 0
        bit_cases n other = omega (arith, other)

    by_word : (word : ℕ) → (k / 32 ≡ word) ⊎ ((k / 32 < word) ⊎ (word < k / 32)) → keyword_word places word ≡ word_at (4 * word) bits % 2 ^ lowest word (k + 1)
    by_word word (inl same) = subst (λ w. keyword_word places w ≡ word_at (4 * w) bits % 2 ^ lowest w (k + 1)) same own
    by_word word (inr (inl less)) = is.each word ∙ ap (λ j. word_at (4 * word) bits % 2 ^ j) (sym (other_step word k (λ e. omega (arith, e, less))))
    by_word word (inr (inr more)) = is.each word ∙ ap (λ j. word_at (4 * word) bits % 2 ^ j) (sym (other_step word k (λ e. omega (arith, e, more))))

-- ---- all places

-- words as bytes are the bits
from_words : (bits : List ℕ) (g : ℕ → ℕ) (from n : ℕ) → IsBytes bits → length bits ≡ 4 * (from + n) → ((word : ℕ) → from ≤ word → word < from + n → g word ≡ word_at (4 * word) bits)
    → flat_map (λ word. to_le_bytes w32 (g word)) (range_with_len from n) ≡ drop (4 * from) bits
from_words bits g from zero fits long same = sym (drop_all (4 * from) bits (omega (arith, long)))
from_words bits g from (suc n) fits long same =
    let rest = from_words bits g (from + 1) n fits (omega (arith, long)) (λ word low high. same word (omega (arith, low)) (omega (arith, high))) in
    let first = word_there (4 * from) (g from) bits fits (omega (arith, long)) (same from (omega arith) (omega arith)) in
    let next : 4 * from + 4 ≡ 4 * (from + 1) = omega arith in
    ap (λ t. to_le_bytes w32 (g from) ++ t) rest ∙ ap (λ t. t ++ drop (4 * (from + 1)) bits) (sym first)
    ∙ ap (λ t. take 4 (drop (4 * from) bits) ++ t) (ap (λ n. drop n bits) (sym next) ∙ sym (drop-drop 4 (4 * from) bits)) ∙ take-append-drop 4 (drop (4 * from) bits)

less_of_div : (w p : ℕ) → 0 < p → w / p ≡ 0 → w < p
less_of_div w p some none = let bound = lt-div-mul-add {a = w} {b = p} some in let product : w / p * p ≡ 0 = ap (λ q. q * p) none ∙ omega arith in omega (arith, bound, product)

small_words : (names : ℕ) (bits : List ℕ) → IsBytes bits → (HasBitPast names bits → ⊥) → (word : ℕ) → word < keyword_words names → word_at (4 * word) bits < 2 ^ lowest word names
small_words names bits fits none word below =
    elim (cases_lt names (32 * word + 32)) [
      | inl part ↦
          let is_last : word ≡ names / 32 = omega (arith, below, part) in
          let used : lowest word names ≡ names % 32 = omega (arith, below, part, is_last) in
          let some : names % 32 ≡ 0 → ⊥ = λ e. omega (arith, below, part, e) in
          subst (λ j. word_at (4 * word) bits < 2 ^ j) (sym used)
          (subst (λ x. word_at (4 * x) bits < 2 ^ (names % 32)) (sym is_last) (below_last some))
      | inr whole ↦ let used : lowest word names ≡ 32 = omega (arith, whole) in subst (λ j. word_at (4 * word) bits < 2 ^ j) (sym used) (word_small (4 * word) bits fits)
    ]
  where
    below_last : (names % 32 ≡ 0 → ⊥) → word_at (4 * (names / 32)) bits < 2 ^ (names % 32)
    below_last some =
        elim (cases_lt (word_at (4 * (names / 32)) bits / 2 ^ (names % 32)) 1) [
          | inl small ↦ less_of_div (word_at (4 * (names / 32)) bits) (2 ^ (names % 32)) (pow_pos (names % 32)) (omega (arith, small))
          | inr big ↦ absurd (none (some, λ e. omega (arith, big, e)))
        ]

pub places_found : (names : ℕ) (bits places : List ℕ) → IsBytes bits → length bits ≡ 4 * keyword_words names → (HasBitPast names bits → ⊥) → AreSet bits names places → ArePlaces names places bits
places_found names bits places fits long none is = record {
  keywords = (is.rising, is.below);
  text = sym (from_words bits (keyword_word places) 0 (keyword_words names) fits (omega (arith, long))
      (λ word low high. is.each word ∙ mod-eq_of_lt (small_words names bits fits none word (omega (arith, high)))));
}

-- ---- a bit that is past the keywords

each_word : (places : List ℕ) (words : List ℕ) → AllByRecursion (λ word. length (to_le_bytes w32 (keyword_word places word)) ≡ 4) words
each_word places [] = tt
each_word places (word ∷ words) = (refl, each_word places words)

word_of_bits : (names : ℕ) (places : List ℕ) (word : ℕ) → IsStrictlyIncreasing places → word < keyword_words names → word_at (4 * word) (keyword_bits names places) ≡ keyword_word places word
word_of_bits names places word up below =
    let inside : word < length (range_with_len 0 (keyword_words names)) = omega (arith, below, length-range_with_len 0 (keyword_words names)) in
    let there = record_of (λ w. to_le_bytes w32 (keyword_word places w)) 4 (range_with_len 0 (keyword_words names)) (each_word places (range_with_len 0 (keyword_words names))) word 0 inside in
    let which : get_or (range_with_len 0 (keyword_words names)) word 0 ≡ word = get_or-range_with_len 0 (keyword_words names) word 0 below ∙ omega arith in
    ap (from_le_bytes w32) (there ∙ ap (λ w. to_le_bytes w32 (keyword_word places w)) which) ∙ from_le_bytes-to_le_bytes_4 (keyword_word places word) (word_fits word places (rise_of places up))

pub no_places : (names : ℕ) (bits places : List ℕ) → HasBitPast names bits → ArePlaces names places bits → ⊥
no_places names bits places past is =
    let some = past.0 in
    let below : names / 32 < keyword_words names = omega (arith, some) in
    let here : word_at (4 * (names / 32)) bits ≡ keyword_word places (names / 32) = ap (word_at (4 * (names / 32))) is.text ∙ word_of_bits names places (names / 32) is.keywords.0 below in
    let used : lowest (names / 32) names ≡ names % 32 = omega arith in
    let small : keyword_word places (names / 32) < 2 ^ (names % 32) = subst (λ j. keyword_word places (names / 32) < 2 ^ j) used (word_below (names / 32) names places (rise_of places is.keywords.0) (below_of names places is.keywords.1)) in
    past.1 (div-eq_of_lt (subst (λ w. w < 2 ^ (names % 32)) (sym here) small))
