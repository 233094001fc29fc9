-- The current extension, the order of the records, and the tables, as the code reads them.
use Rattle.std.proofs.Common.{◌≡◌, ◌⊎◌, inl, inr, ℕ, suc, ◌+◌, ◌*◌, ◌^◌, ◌<◌, ◌≤◌, List, ◌++◌, length, take, drop, All, Option, Some, None, refl, sym, ◌∙◌, ap, subst, arith, length-append}
use Rattle.std.specs.Prelude.{IsSomeAnd, flat_map, slice_get}
use Rattle.std.specs.Int.{w32, to_le_bytes, from_le_bytes}
use Rattle.std.proofs.lemmas.Bool.{cases_lt}
use Rattle.std.proofs.lemmas.List.{drop-drop, drop-take, take-append-drop, take-take, take_at}
use Rattle.std.proofs.lemmas.Nat.{from_le_bytes-to_le_bytes_4}
use Rattle.std.proofs.lemmas.Option.{get_or_from_slice_get, slice_get_within}
use Rattle.dv_model.specs.declared.types.Current.{Current}
use Rattle.dv_model.specs.declared.types.Extension.{Extension}
use Rattle.dv_formats.specs.Snapshots.{keyword_text}
use Rattle.dv_formats.specs.SnapshotFaults.{IsCurrent, IsFirstUnordered, IsInOrder, record_place, uid_at, uid_before, word_at}
use Rattle.dv_formats.proofs.Passed.{IsBytes, grow, word_there}
use Rattle.dv_keywords.specs.Tables.{IsTableAt}
use Rattle.dv_index.specs.Reading.{AreNames}

-- ---- the current extension

eight_there : (b : List ℕ) (x y : ℕ) → IsBytes b → 60 ≤ length b → x ≡ word_at 52 b → y ≡ word_at 56 b → take 8 (drop 52 b) ≡ to_le_bytes w32 x ++ to_le_bytes w32 y
eight_there b x y fits long first second =
    grow 4 4 (drop 52 b) (to_le_bytes w32 x) (to_le_bytes w32 y) (word_there 52 x b fits (omega (arith, long)) first) (ap (take 4) (drop-drop 4 52 b) ∙ word_there 56 y b fits (omega (arith, long)) second)

pub no_current : (es : List Extension) (b : List ℕ) → IsBytes b → 60 ≤ length b → 0 ≡ word_at 52 b → 0 ≡ word_at 56 b → IsCurrent es None b
no_current es b fits long place size = record { known = tt; text = eight_there b 0 0 fits long place size }

pub some_current : (es : List Extension) (b : List ℕ) (c : Current) (e : Extension) → IsBytes b → 60 ≤ length b → c.extension + 1 ≡ word_at 52 b → c.size ≡ word_at 56 b → slice_get es c.extension ≡ Some e → c.size ≤ e.record_size → IsCurrent es (Some c) b
some_current es b c e fits long place size there small = record {
  known = subst (λ (o : Option Extension). IsSomeAnd o (λ x. c.size ≤ x.record_size)) (sym there) small;
  text = eight_there b (c.extension + 1) c.size fits long place size;
}

words_of : (b : List ℕ) (x y : ℕ) → x < 2 ^ 32 → y < 2 ^ 32 → take 8 (drop 52 b) ≡ to_le_bytes w32 x ++ to_le_bytes w32 y → (word_at 52 b ≡ x) × (word_at 56 b ≡ y)
words_of b x y p q e =
    let first : take 4 (drop 52 b) ≡ to_le_bytes w32 x = sym (take-take 4 8 (drop 52 b) (omega arith)) ∙ ap (take 4) e in
    let second : take 4 (drop 56 b) ≡ to_le_bytes w32 y = ap (take 4) (sym (drop-drop 4 52 b)) ∙ sym (drop-take 4 4 (drop 52 b)) ∙ ap (drop 4) e in
    (ap (from_le_bytes w32) first ∙ from_le_bytes-to_le_bytes_4 x p, ap (from_le_bytes w32) second ∙ from_le_bytes-to_le_bytes_4 y q)

-- what a current extension says of the two numbers
pub record HasWords (es : List Extension) (b : List ℕ) (c : Option Current) : Type 0 where
  pub none : word_at 52 b ≡ 0 → word_at 56 b ≡ 0
  pub some : (place : ℕ) → word_at 52 b ≡ place + 1 → (e : Extension) × (slice_get es place ≡ Some e) × (word_at 56 b ≤ e.record_size)

pub current_words : (es : List Extension) (b : List ℕ) (c : Option Current) → length es ≤ 16 → All (λ e. e.record_size < 2 ^ 16) es → IsCurrent es c b → HasWords es b c
current_words es b None few short is =
    let both = words_of b 0 0 (omega arith) (omega arith) is.text in
    record { none = λ zero. both.1; some = λ place one. absurd (omega (arith, both.0, one)) }
current_words es b (Some c) few short is = by_entry (slice_get es c.extension) refl is.known
  where
    by_entry : (o : Option Extension) → slice_get es c.extension ≡ o → IsSomeAnd o (λ x. c.size ≤ x.record_size) → HasWords es b (Some c)
    by_entry None there small = absurd small
    by_entry (Some e) there small =
        let below = slice_get_within es c.extension e there in
        let size = short c.extension e below in
        let same = get_or_from_slice_get es c.extension e e there in
        let wide : c.size < 2 ^ 32 = omega (arith, small, size, ap (λ (x : Extension). x.record_size) same) in
        let both = words_of b (c.extension + 1) c.size (omega (arith, below, few)) wide is.text in
        record {
          none = λ zero. absurd (omega (arith, both.0, zero));
          some = λ place one.
              let which : c.extension ≡ place = omega (arith, both.0, one) in
              (e, ap (slice_get es) (sym which) ∙ there, omega (arith, both.1, small));
        }

-- ---- the order of the records

pub uid_there : (k : ℕ) (b : List ℕ) → 4 ≤ word_at 8 b → uid_at k b ≡ from_le_bytes w32 (take 4 (drop (record_place k b) b))
uid_there k b long = ap (from_le_bytes w32) (take-take 4 (word_at 8 b) (drop (record_place k b) b) long)

pub unordered : (k : ℕ) (b : List ℕ) (before uid next : ℕ) → k < word_at 32 b → ((j : ℕ) → j < k → IsInOrder j b) → before ≡ uid_before k b → uid ≡ uid_at k b → next ≡ word_at 28 b → (uid ≤ before) ⊎ (next ≤ uid) → IsFirstUnordered k b
unordered k b before uid next below order p q r (inl low) = record { below = below; before = order; here = λ is. let up = is.0 in omega (arith, up, p, q, low) }
unordered k b before uid next below order p q r (inr high) = record { below = below; before = order; here = λ is. let down = is.1 in omega (arith, down, q, r, high) }

pub ordered : (k : ℕ) (b : List ℕ) (before uid next : ℕ) → ((j : ℕ) → j < k → IsInOrder j b) → before ≡ uid_before k b → uid ≡ uid_at k b → next ≡ word_at 28 b → before < uid → uid < next → (j : ℕ) → j < k + 1 → IsInOrder j b
ordered k b before uid next order p q r up down j below =
    elim (cases_lt j k) [
      | inl less ↦ order j less
      | inr from ↦ let same : k ≡ j = omega (arith, below, from) in subst (λ i. IsInOrder i b) same (omega (arith, p, q, up), omega (arith, q, r, down))
    ]

pub next_before : (k : ℕ) (b : List ℕ) (uid : ℕ) → uid ≡ uid_at k b → uid ≡ uid_before (k + 1) b
next_before k b uid is = let next : suc k ≡ k + 1 = omega arith in is ∙ ap (λ j. uid_before j b) next

pub next_place : (k : ℕ) (b : List ℕ) (at size : ℕ) → at ≡ record_place k b → size ≡ word_at 8 b → at + size ≡ record_place (k + 1) b
next_place k b at size p q = let more : word_at 8 b * (k + 1) ≡ word_at 8 b * k + word_at 8 b = omega arith in omega (arith, p, q, more)

-- ---- the tables

pub names_found : (count : ℕ) (names : List (List ℕ)) (n : ℕ) (rest b : List ℕ) → IsTableAt count names n b → rest ≡ drop n b → AreNames count names rest b
names_found count names n rest b is after = record {
  counted = is.counted;
  valid = (is.table.valid, is.table.distinct);
  text = sym (take-append-drop n b) ∙ ap (λ t. t ++ drop n b) is.text ∙ ap (λ t. flat_map keyword_text names ++ t) (sym after);
}

pub table_of : (count : ℕ) (names : List (List ℕ)) (rest b : List ℕ) → count < 2 ^ 32 → AreNames count names rest b → IsTableAt count names (length (flat_map keyword_text names)) b
table_of count names rest b few are = record {
  table = record { valid = are.valid.0; distinct = are.valid.1; few = omega (arith, are.counted, few) };
  counted = are.counted;
  size = omega (arith, ap length are.text, length-append (flat_map keyword_text names) rest);
  text = ap (take (length (flat_map keyword_text names))) are.text ∙ take_at (flat_map keyword_text names) rest (length (flat_map keyword_text names)) refl;
}
