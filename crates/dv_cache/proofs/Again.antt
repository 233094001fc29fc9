-- What is written is found again.
use Rattle.std.proofs.Common.{◌≡◌, Contains, ℕ, ◌+◌, ◌*◌, ◌^◌, ◌<◌, ◌≤◌, List, [], ◌∷◌, ◌++◌, length, take, drop, get_or, Option, Some, None, refl, sym, ◌∙◌, ap, subst, arith, length-append, append_assoc}
use Rattle.std.specs.Prelude.{slice_get}
use Rattle.std.specs.Int.{w32, from_le_bytes}
use Rattle.std.proofs.Math.Seq.{drop-append_seam, drop-append-add, take-append_seam}
use Rattle.std.proofs.lemmas.List.{length-take, take-append-drop, take_more}
use Rattle.std.proofs.lemmas.Nat.{from_le_bytes-to_le_bytes_4}
use Rattle.std.proofs.lemmas.Option.{get_or_from_slice_get, slice_get-get_or, slice_get_within}
use Rattle.dv_cache.specs.declared.row.CacheRow.{CacheRow}
use Rattle.dv_cache.specs.declared.row.Known.{Known}
use Rattle.dv_cache.specs.Caches.{cache_text, entries_from, entry_text, fields_text, first_place, HasFive, header_text, kept, known_text, place_behind, row_entry, texts_from}
use Rattle.dv_cache.specs.Finding.{AreFieldsOf, HasHeader, IsRowAt, word_at}
use Rattle.dv_cache.specs.Written.{place_of, AreWritable}
use Rattle.dv_cache.proofs.Places.{entries_append, kept_ends, kept_is, kept_short, texts_append, texts_length}
use Rattle.dv_cache.proofs.Rows.{one_row, row_of}

-- ---- numbers in a text

-- the four numbers of an entry
record AreNumbers (uid physical virtual_size place : ℕ) (at : ℕ) (b : List ℕ) : Type 0 where
  first : word_at at b ≡ uid
  second : word_at (at + 4) b ≡ physical
  third : word_at (at + 8) b ≡ virtual_size
  fourth : word_at (at + 12) b ≡ place

numbers_in : (front back b : List ℕ) (uid physical virtual_size place at : ℕ) → uid < 2 ^ 32
    → physical < 2 ^ 32 → virtual_size < 2 ^ 32 → place < 2 ^ 32 → length front ≡ at
    → b ≡ front ++ (entry_text uid physical virtual_size place ++ back)
    → AreNumbers uid physical virtual_size place at b
numbers_in front back b uid physical virtual_size place at p q r s here e =
    let tail = entry_text uid physical virtual_size place ++ back in
    let behind : (k : ℕ) → drop (at + k) b ≡ drop k tail = λ k. ap (λ n. drop (n + k) b) (sym here) ∙ ap (drop (length front + k)) e ∙ drop-append-add front tail k in
    record {
      first = ap (λ n. from_le_bytes w32 (take 4 (drop n b))) (sym (omega arith)) ∙ ap (λ t. from_le_bytes w32 (take 4 t)) (behind 0) ∙ from_le_bytes-to_le_bytes_4 uid p;
      second = ap (λ t. from_le_bytes w32 (take 4 t)) (behind 4) ∙ from_le_bytes-to_le_bytes_4 physical q;
      third = ap (λ t. from_le_bytes w32 (take 4 t)) (behind 8) ∙ from_le_bytes-to_le_bytes_4 virtual_size r;
      fourth = ap (λ t. from_le_bytes w32 (take 4 t)) (behind 12) ∙ from_le_bytes-to_le_bytes_4 place s;
    }

-- ---- a row among others

entry_length : (at uid : ℕ) (known : Option Known) → length (row_entry at uid known) ≡ 16
entry_length at uid None = refl
entry_length at uid (Some known) = refl

entries_length : (at : ℕ) (rows : List CacheRow) → length (entries_from at rows) ≡ 16 * length rows
entries_length at [] = refl
entries_length at (row ∷ rows) =
    let entry = row_entry at row.uid (kept at row.known) in
    let next = at + length (known_text (kept at row.known)) in
    omega (arith, length-append entry (entries_from next rows), entry_length at row.uid (kept at row.known), entries_length next rows)

place_small : (at : ℕ) (rows : List CacheRow) → at ≤ 1073741824 → place_behind at rows ≤ 1073741824
place_small at [] small = small
place_small at (row ∷ rows) small = place_small (at + length (known_text (kept at row.known))) rows (kept_ends at row.known small)

place_rises : (at : ℕ) (rows : List CacheRow) → at ≤ place_behind at rows
place_rises at rows = omega (arith, texts_length at rows)

-- the rows before a row, it, and those behind it
around : (rows : List CacheRow) (i : ℕ) (row : CacheRow) → slice_get rows i ≡ Some row
    → rows ≡ take i rows ++ (row ∷ drop (i + 1) rows)
around rows i row e =
    let less = slice_get_within rows i row e in
    sym (take-append-drop (i + 1) rows) ∙ ap (λ t. t ++ drop (i + 1) rows) (take_more rows i row less ∙ ap (λ x. take i rows ++ x ∷ []) (get_or_from_slice_get rows i row row e))
    ∙ append_assoc (take i rows) (row ∷ []) (drop (i + 1) rows)

-- a file's header, and its entries and fields before and behind those of a row
record Parts (indexid seq : ℕ) (rows : List CacheRow) (i : ℕ) (row : CacheRow) : Type 0 where
  before : List ℕ
  behind : List ℕ
  texts : List ℕ
  rest : List ℕ
  counted : length before ≡ 32 + 16 * i
  placed : length texts ≡ place_of rows i
  entry : cache_text indexid seq rows ≡ before ++ (row_entry (place_of rows i) row.uid (kept (place_of rows i) row.known) ++ behind)
  fields : cache_text indexid seq rows ≡ texts ++ (known_text (kept (place_of rows i) row.known) ++ rest)

entry_regrouped : (h a e z t : List ℕ) → h ++ (a ++ (e ++ z)) ++ t ≡ (h ++ a) ++ (e ++ (z ++ t))
entry_regrouped h a e z t = simp append_assoc

fields_regrouped : (h s a k z : List ℕ) → h ++ s ++ (a ++ (k ++ z)) ≡ (h ++ s ++ a) ++ (k ++ z)
fields_regrouped h s a k z = simp append_assoc

parts : (indexid seq : ℕ) (rows : List CacheRow) (i : ℕ) (row : CacheRow)
    → slice_get rows i ≡ Some row → Parts indexid seq rows i row
parts indexid seq rows i row e =
    let first = first_place rows in
    let place = place_of rows i in
    let later = drop (i + 1) rows in
    let known = kept place row.known in
    let next = place + length (known_text known) in
    let head = header_text indexid seq (length rows) (place_behind first rows) in
    let entries = entries_from first rows in
    let split = around rows i row e in
    let less = slice_get_within rows i row e in
    let before : length (take i rows) ≡ i = omega (arith, less, length-take i rows) in
    let entries_split : entries ≡ entries_from first (take i rows) ++ (row_entry place row.uid known ++ entries_from next later) = ap (entries_from first) split ∙ entries_append first (take i rows) (row ∷ later) in
    let texts_split : texts_from first rows ≡ texts_from first (take i rows) ++ (known_text known ++ texts_from next later) = ap (texts_from first) split ∙ texts_append first (take i rows) (row ∷ later) in
    record {
      before = head ++ entries_from first (take i rows);
      behind = entries_from next later ++ texts_from first rows;
      texts = head ++ entries ++ texts_from first (take i rows);
      rest = texts_from next later;
      counted = omega (arith, length-append head (entries_from first (take i rows)), entries_length first (take i rows), before);
      placed = omega (arith, length-append (head ++ entries) (texts_from first (take i rows)), length-append head entries, entries_length first rows, texts_length first (take i rows));
      entry = ap (λ t. head ++ t ++ texts_from first rows) entries_split ∙ entry_regrouped head (entries_from first (take i rows)) (row_entry place row.uid known) (entries_from next later) (texts_from first rows);
      fields = ap (λ t. head ++ entries ++ t) texts_split ∙ fields_regrouped head entries (texts_from first (take i rows)) (known_text known) (texts_from next later);
    }

-- ---- the whole

text_length : (indexid seq : ℕ) (rows : List CacheRow)
    → length (cache_text indexid seq rows) ≡ place_behind (first_place rows) rows
text_length indexid seq rows =
    let first = first_place rows in
    let head = header_text indexid seq (length rows) (place_behind first rows) in
    omega (arith, length-append (head ++ entries_from first rows) (texts_from first rows), length-append head (entries_from first rows), entries_length first rows, texts_length first rows)

has_header : (indexid seq : ℕ) (rows : List CacheRow) → indexid < 2 ^ 32 → seq < 2 ^ 32
    → length rows ≤ 8388608 → HasHeader indexid seq (cache_text indexid seq rows)
has_header indexid seq rows p q few =
    let size = place_behind (first_place rows) rows in
    let small = place_small (first_place rows) rows (omega (arith, few)) in
    record {
      size = omega (arith, text_length indexid seq rows, place_rises (first_place rows) rows);
      named = refl;
      of = from_le_bytes-to_le_bytes_4 indexid p;
      numbered = from_le_bytes-to_le_bytes_4 seq q;
      whole = from_le_bytes-to_le_bytes_4 size (omega (arith, small)) ∙ sym (text_length indexid seq rows);
    }

counted : (indexid seq : ℕ) (rows : List CacheRow) → length rows ≤ 8388608
    → word_at 16 (cache_text indexid seq rows) ≡ length rows
counted indexid seq rows few = from_le_bytes-to_le_bytes_4 (length rows) (omega (arith, few))

place_of_small : (rows : List CacheRow) (i : ℕ) → length rows ≤ 8388608
    → place_of rows i ≤ 1073741824
place_of_small rows i few = place_small (first_place rows) (take i rows) (omega (arith, few))

-- a row that is kept
pub found : (indexid seq : ℕ) (rows : List CacheRow) (i : ℕ) (row : CacheRow) (known : Known)
    → indexid < 2 ^ 32 → seq < 2 ^ 32 → AreWritable rows → slice_get rows i ≡ Some row
    → kept (place_of rows i) row.known ≡ Some known
    → IsRowAt (cache_text indexid seq rows) indexid seq row.uid (32 + 16 * i) row
found indexid seq rows i row known p q ok e k =
    let b = cache_text indexid seq rows in
    let place = place_of rows i in
    let less = slice_get_within rows i row e in
    let same : get_or rows i row ≡ row = get_or_from_slice_get rows i row row e in
    let uid : row.uid < 2 ^ 32 = subst (λ r. r.uid < 2 ^ 32) same (ok.uids i row less) in
    let five : HasFive row.known = subst (λ r. HasFive r.known) same (ok.five i row less) in
    let is = kept_is place row.known known k in
    let cut = parts indexid seq rows i row e in
    let small = place_of_small rows i ok.few in
    let low : 32 ≤ place = omega (arith, place_rises (first_place rows) (take i rows)) in
    let entry : b ≡ cut.before ++ (entry_text row.uid known.physical known.virtual_size place ++ cut.behind) = cut.entry ∙ ap (λ o. cut.before ++ (row_entry place row.uid o ++ cut.behind)) k in
    let fields : b ≡ cut.texts ++ (fields_text known.fields ++ cut.rest) = cut.fields ∙ ap (λ o. cut.texts ++ (known_text o ++ cut.rest)) k in
    let numbers = numbers_in cut.before cut.behind b row.uid known.physical known.virtual_size place (32 + 16 * i) uid (omega (arith, is.fits.sizes.0)) (omega (arith, is.fits.sizes.1)) (omega (arith, small)) cut.counted entry in
    let there : drop (word_at (32 + 16 * i + 12) b) b ≡ fields_text known.fields ++ cut.rest =
    ap (λ n. drop n b) (numbers.fourth ∙ sym cut.placed) ∙ ap (drop (length cut.texts)) fields ∙ drop-append_seam cut.texts (fields_text known.fields ++ cut.rest) in
    let stand : AreFieldsOf (fields_text known.fields ++ cut.rest) known.fields =
    record { five = subst HasFive is.is five; short = kept_short place row.known known k; text = take-append_seam (fields_text known.fields) cut.rest } in
    record {
      header = has_header indexid seq rows p q ok.few;
      entry = record {
        counted = (i, refl, omega (arith, less, counted indexid seq rows ok.few));
        size = omega (arith, less, text_length indexid seq rows, place_rises (first_place rows) rows);
        of = numbers.first;
        placed = λ zero. omega (arith, zero, numbers.fourth, low);
      };
      fields = known.fields;
      stand = subst (λ t. AreFieldsOf t known.fields) (sym there) stand;
      is = ap (λ (o : Option Known). record { uid = row.uid; known = o }) is.is ∙ ap (λ n. row_of row.uid n known.virtual_size known.fields) (sym numbers.second) ∙ ap (λ n. row_of row.uid (word_at (32 + 16 * i + 4) b) n known.fields) (sym numbers.third);
    }

-- a row that isn't kept
pub not_found : (indexid seq : ℕ) (rows : List CacheRow) (i uid : ℕ) (row other : CacheRow)
    → AreWritable rows → slice_get rows i ≡ Some row
    → kept (place_of rows i) row.known ≡ None
    → IsRowAt (cache_text indexid seq rows) indexid seq uid (32 + 16 * i) other → ⊥
not_found indexid seq rows i uid row other ok e k is =
    let b = cache_text indexid seq rows in
    let place = place_of rows i in
    let less = slice_get_within rows i row e in
    let same : get_or rows i row ≡ row = get_or_from_slice_get rows i row row e in
    let small : row.uid < 2 ^ 32 = subst (λ r. r.uid < 2 ^ 32) same (ok.uids i row less) in
    let cut = parts indexid seq rows i row e in
    let entry : b ≡ cut.before ++ (entry_text row.uid 0 0 0 ++ cut.behind) = cut.entry ∙ ap (λ o. cut.before ++ (row_entry place row.uid o ++ cut.behind)) k in
    let numbers = numbers_in cut.before cut.behind b row.uid 0 0 0 (32 + 16 * i) small (omega arith) (omega arith) (omega arith) cut.counted entry in
    is.entry.placed numbers.fourth

-- whatever is found was written
pub only_written : (indexid seq asked number uid offset : ℕ) (rows : List CacheRow)
    (other : CacheRow)
    → indexid < 2 ^ 32 → seq < 2 ^ 32 → AreWritable rows
    → IsRowAt (cache_text indexid seq rows) asked number uid offset other → Contains rows other
only_written indexid seq asked number uid offset rows other p q ok is = by_kept (kept (place_of rows i) row.known) refl
  where
    b : List ℕ
    b = cache_text indexid seq rows

    i : ℕ
    i = is.entry.counted.0

    row : CacheRow
    row = get_or rows i other

    less : i < length rows
    less = omega (arith, is.entry.counted.2, counted indexid seq rows ok.few)

    there : slice_get rows i ≡ Some row
    there = slice_get-get_or rows i other less

    here : IsRowAt b asked number uid (32 + 16 * i) other
    here = subst (λ k. IsRowAt b asked number uid k other) is.entry.counted.1 is

    head : HasHeader indexid seq b
    head = has_header indexid seq rows p q ok.few

    named : IsRowAt b indexid seq uid (32 + 16 * i) other
    named =
        subst (λ k. IsRowAt b k seq uid (32 + 16 * i) other) (sym here.header.of ∙ head.of)
        (subst (λ k. IsRowAt b asked k uid (32 + 16 * i) other) (sym here.header.numbered ∙ head.numbered) here)

    by_kept : (known : Option Known) → kept (place_of rows i) row.known ≡ known → Contains rows other
    by_kept None k = absurd (not_found indexid seq rows i uid row other ok there k named)
    by_kept (Some known) k =
        let own = found indexid seq rows i row known p q ok there k in
        let uids : uid ≡ row.uid = sym here.entry.of ∙ own.entry.of in
        let same : row ≡ other = one_row b indexid seq row.uid (32 + 16 * i) row other own (subst (λ u. IsRowAt b indexid seq u (32 + 16 * i) other) uids named) in
        (i, less, same)
