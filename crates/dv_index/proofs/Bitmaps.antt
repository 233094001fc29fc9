-- The words of a row's keywords are made keyword by keyword.
use Rattle.std.proofs.Common.{◌≡◌, ◌⊎◌, inl, inr, ℕ, ◌+◌, ◌*◌, ◌/◌, ◌%◌, ◌^◌, ◌<◌, ◌≤◌, true, false, cond, List, length, get_or, set, take, sym, ◌∙◌, ap, subst, arith}
use Rattle.std.specs.Prelude.{nat_eq, map, replicate}
use Rattle.std.specs.Int.{w32, to_le_bytes}
use Rattle.std.specs.List.{flat_map, range_with_len}
use Rattle.std.specs.List.Sorted.{IsStrictlyIncreasing}
use Rattle.std.proofs.lemmas.Bool.{cases_order}
use Rattle.std.proofs.lemmas.Bool.Decides.{nat_tests}
use Rattle.std.proofs.lemmas.List.{ext_get_or, take_all, get_or-set_other, get_or-set_same, get_or-replicate, length-replicate}
use Rattle.std.proofs.lemmas.List.Sums.{sum_by_more, sum_by_more_le}
use Rattle.std.proofs.lemmas.List.FromFn.{length-map-range_with_len, get_or-map-range_with_len}
use Rattle.std.proofs.lemmas.List.Folds.{flat_map-map}
use Rattle.std.proofs.Math.ListN.{length-set}
use Rattle.std.proofs.Math.Pow.{pow_mono}
use Rattle.dv_formats.specs.Snapshots.{keyword_bits, keyword_word, keyword_words}
use Rattle.dv_formats.proofs.Bits.{bit_of, word_fits}
use Rattle.dv_formats.proofs.Wholes.{rise_of}

-- the words of the first places
pub record AreWords (places : List ℕ) (done count : ℕ) (words : List ℕ) : Type 0 where
  pub size : length words ≡ count
  pub each : (word : ℕ) → word < count → get_or words word 0 ≡ keyword_word (take done places) word

pub own_bit : (k : ℕ) → bit_of (k / 32) k ≡ 2 ^ (k % 32)
own_bit k = let test : nat_eq (k / 32) (k / 32) ≡ true = grind (arith, nat_tests) in ap (λ b. cond b (2 ^ (k % 32)) 0) test

pub other_bit : (word k : ℕ) → (k / 32 ≡ word → ⊥) → bit_of word k ≡ 0
other_bit word k other = let test : nat_eq (k / 32) word ≡ false = grind (arith, nat_tests, other) in ap (λ b. cond b (2 ^ (k % 32)) 0) test

-- a bit that isn't set yet has room
pub word_room : (places : List ℕ) (i k : ℕ) → IsStrictlyIncreasing places → i < length places → get_or places i 0 ≡ k → keyword_word (take i places) (k / 32) + 2 ^ (k % 32) < 2 ^ 32
word_room places i k rising below here =
    let some = sum_by_more_le (bit_of (k / 32)) places i 0 below in
    let most = word_fits (k / 32) places (rise_of places rising) in
    let own : bit_of (k / 32) (get_or places i 0) ≡ 2 ^ (k % 32) = ap (bit_of (k / 32)) here ∙ own_bit k in
    omega (arith, some, most, own)

-- the bit that a shift makes
pub shifted : (k : ℕ) → 1 * 2 ^ (k % 32) % 4294967296 ≡ 2 ^ (k % 32)
shifted k =
    let low : k % 32 ≤ 31 = omega arith in
    let small : 2 ^ (k % 32) ≤ 2 ^ 31 = pow_mono low in
    omega (arith, small)

pub words_start : (places : List ℕ) (count : ℕ) → AreWords places 0 count (replicate count 0)
words_start places count = record { size = length-replicate count 0; each = λ word below. get_or-replicate count word 0 0 below }

pub words_step : (places words : List ℕ) (i k count : ℕ) → i < length places → get_or places i 0 ≡ k → k < 32 * count → AreWords places i count words
    → AreWords places (i + 1) count (set words (k / 32) (get_or words (k / 32) 0 + 2 ^ (k % 32)))
words_step places words i k count below here inside so_far = record {
  size = length-set words (k / 32) (get_or words (k / 32) 0 + 2 ^ (k % 32)) ∙ so_far.size;
  each = λ word low. by_word word low (cases_order word (k / 32));
}
  where
    other_word : (word : ℕ) → word < count → (k / 32 ≡ word → ⊥) → get_or (set words (k / 32) (get_or words (k / 32) 0 + 2 ^ (k % 32))) word 0 ≡ keyword_word (take (i + 1) places) word
    other_word word low other =
        let more = sum_by_more (bit_of word) places i 0 below in
        let none : bit_of word (get_or places i 0) ≡ 0 = ap (bit_of word) here ∙ other_bit word k other in
        let before = so_far.each word low in
        get_or-set_other words (k / 32) word (get_or words (k / 32) 0 + 2 ^ (k % 32)) 0 (λ e. other (sym e)) ∙ omega (arith, more, none, before)

    own_word : (word : ℕ) → word < count → word ≡ k / 32 → get_or (set words (k / 32) (get_or words (k / 32) 0 + 2 ^ (k % 32))) word 0 ≡ keyword_word (take (i + 1) places) word
    own_word word low same =
        let at_place : k / 32 < length words = omega (arith, inside, so_far.size) in
        let more = sum_by_more (bit_of (k / 32)) places i 0 below in
        let one : bit_of (k / 32) (get_or places i 0) ≡ 2 ^ (k % 32) = ap (bit_of (k / 32)) here ∙ own_bit k in
        let before = so_far.each (k / 32) (omega (arith, low, same)) in
        subst (λ w. get_or (set words (k / 32) (get_or words (k / 32) 0 + 2 ^ (k % 32))) w 0 ≡ keyword_word (take (i + 1) places) w) (sym same)
        (get_or-set_same words (k / 32) (get_or words (k / 32) 0 + 2 ^ (k % 32)) 0 at_place ∙ omega (arith, more, one, before))

    by_word : (word : ℕ) → word < count → (word ≡ k / 32) ⊎ ((word < k / 32) ⊎ (k / 32 < word)) → get_or (set words (k / 32) (get_or words (k / 32) 0 + 2 ^ (k % 32))) word 0 ≡ keyword_word (take (i + 1) places) word
    by_word word low (inl same) = own_word word low same
    by_word word low (inr (inl less)) = other_word word low (λ e. omega (arith, e, less))
    by_word word low (inr (inr more)) = other_word word low (λ e. omega (arith, e, more))

pub words_done : (places words : List ℕ) (count : ℕ) → AreWords places (length places) count words → words ≡ map (keyword_word places) (range_with_len 0 count)
words_done places words count are =
    ext_get_or 0 words (map (keyword_word places) (range_with_len 0 count)) (are.size ∙ sym (length-map-range_with_len (keyword_word places) 0 count))
    (λ i low. let below : i < count = omega (arith, low, are.size) in
    are.each i below ∙ ap (λ ps. keyword_word ps i) (take_all (length places) places (omega arith)) ∙ sym (get_or-map-range_with_len (keyword_word places) 0 count i i 0 below (omega arith)))

-- and as bytes
pub words_bytes : (names : ℕ) (places : List ℕ) → flat_map (to_le_bytes w32) (map (keyword_word places) (range_with_len 0 (keyword_words names))) ≡ keyword_bits names places
words_bytes names places = flat_map-map (to_le_bytes w32) (keyword_word places) (range_with_len 0 (keyword_words names))
