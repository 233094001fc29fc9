-- The entries and the fields of rows, one row after another.
use Rattle.std.proofs.Common.{◌≡◌, ℕ, ◌+◌, ◌≤◌, Bool, true, false, List, [], ◌∷◌, ◌++◌, length, All, Option, Some, None, refl, sym, ◌∙◌, ap, subst, arith, length-append, append_assoc}
use Rattle.std.specs.Prelude.{OnOk, Result, Ok, Err, nat_le, ◌&&◌, sum_by, if◌then◌else◌}
use Rattle.std.proofs.lemmas.Bool.{le-leb, leb-true}
use Rattle.std.proofs.lemmas.List.{append-nil}
use Rattle.std.proofs.Math.Bool.{and-eq-true_iff}
use Rattle.dv_cache.specs.declared.row.CacheRow.{CacheRow}
use Rattle.dv_cache.specs.declared.row.Known.{Known}
use Rattle.dv_cache.specs.Begun.{Begun, begun}
use Rattle.dv_cache.specs.Caches.{cache_text, entries_from, field_size, fields_text, first_place, fits, header_text, IsShort, kept, known_text, place_behind, row_entry, texts_from}
use Rattle.dv_cache.proofs.FieldTexts.{all_short, text_size}

-- ---- what is kept

pub record Fits (at : ℕ) (known : Known) : Type 0 where
  pub sizes : (known.physical ≤ 2147483648) × (known.virtual_size ≤ 2147483648)
  pub fields : sum_by field_size known.fields ≤ 65536
  pub end : at + length (fields_text known.fields) ≤ 1073741824

pub fits_is : (at : ℕ) (known : Known) → fits at known ≡ true → Fits at known
fits_is at known e =
    let a = nat_le known.physical 2147483648 in
    let b = nat_le known.virtual_size 2147483648 in
    let c = nat_le (sum_by field_size known.fields) 65536 in
    let d = nat_le (at + length (fields_text known.fields)) 1073741824 in
    let all = (and-eq-true_iff (a && b && c) d).0 e in
    let three = (and-eq-true_iff (a && b) c).0 all.0 in
    let two = (and-eq-true_iff a b).0 three.0 in
    record {
      sizes = (leb-true known.physical 2147483648 two.0, leb-true known.virtual_size 2147483648 two.1);
      fields = leb-true (sum_by field_size known.fields) 65536 three.1;
      end = leb-true (at + length (fields_text known.fields)) 1073741824 all.1;
    }

-- the test of the end is the last
pub fits_by : (at size : ℕ) (known : Known) → known.physical ≤ 2147483648
    → known.virtual_size ≤ 2147483648 → size ≡ sum_by field_size known.fields → size ≤ 65536
    → length known.fields ≡ 5
    → nat_le (at + 20 + size) 1073741824 ≡ fits at known
fits_by at size known p q e few five =
    let a = le-leb known.physical 2147483648 p in
    let b = le-leb known.virtual_size 2147483648 q in
    let c = le-leb (sum_by field_size known.fields) 65536 (omega (arith, e, few)) in
    let d : at + 20 + size ≡ at + length (fields_text known.fields) = omega (arith, e, five, text_size known.fields) in
    rw (a, b, c) (ap (λ k. nat_le k 1073741824) d)

-- the cases of a row
pub record IsKept (at : ℕ) (known : Option Known) (written : Known) : Type 0 where
  pub is : known ≡ Some written
  pub fits : Fits at written

pub kept_is : (at : ℕ) (known : Option Known) (written : Known) → kept at known ≡ Some written
    → IsKept at known written
kept_is at None written e = absurd cc
kept_is at (Some known) written e = by_test (fits at known) refl e
  where
    by_test : (t : Bool) → fits at known ≡ t → (if t then Some known else None) ≡ Some written
        → IsKept at (Some known) written
    by_test true h f = let same : known ≡ written = cc in record { is = f; fits = subst (λ k. Fits at k) same (fits_is at known h) }
    by_test false h f = absurd cc

pub kept_short : (at : ℕ) (known : Option Known) (written : Known) → kept at known ≡ Some written
    → All IsShort written.fields
kept_short at known written e = all_short written.fields (kept_is at known written e).fits.fields

-- the fields that are kept end within 2^30 bytes
pub kept_ends : (at : ℕ) (known : Option Known) → at ≤ 1073741824
    → at + length (known_text (kept at known)) ≤ 1073741824
kept_ends at known small = by_kept (kept at known) refl
  where
    by_kept : (o : Option Known) → kept at known ≡ o → at + length (known_text o) ≤ 1073741824
    by_kept None e = omega (arith, small)
    by_kept (Some written) e = (kept_is at known written e).fits.end

-- ---- rows behind others

pub texts_length : (at : ℕ) (rows : List CacheRow)
    → at + length (texts_from at rows) ≡ place_behind at rows
texts_length at [] = omega arith
texts_length at (row ∷ rows) =
    let text = known_text (kept at row.known) in
    omega (arith, length-append text (texts_from (at + length text) rows), texts_length (at + length text) rows)

pub behind_append : (at : ℕ) (xs ys : List CacheRow)
    → place_behind at (xs ++ ys) ≡ place_behind (place_behind at xs) ys
behind_append at [] ys = refl
behind_append at (row ∷ xs) ys = behind_append (at + length (known_text (kept at row.known))) xs ys

pub texts_append : (at : ℕ) (xs ys : List CacheRow)
    → texts_from at (xs ++ ys) ≡ texts_from at xs ++ texts_from (place_behind at xs) ys
texts_append at [] ys = refl
texts_append at (row ∷ xs) ys =
    let text = known_text (kept at row.known) in
    let next = at + length text in
    ap (λ t. text ++ t) (texts_append next xs ys) ∙ sym (append_assoc text (texts_from next xs) (texts_from (place_behind next xs) ys))

pub entries_append : (at : ℕ) (xs ys : List CacheRow)
    → entries_from at (xs ++ ys) ≡ entries_from at xs ++ entries_from (place_behind at xs) ys
entries_append at [] ys = refl
entries_append at (row ∷ xs) ys =
    let entry = row_entry at row.uid (kept at row.known) in
    let next = at + length (known_text (kept at row.known)) in
    ap (λ t. entry ++ t) (entries_append next xs ys) ∙ sym (append_assoc entry (entries_from next xs) (entries_from (place_behind next xs) ys))

-- ---- one row more

pub one_row_more : (first : ℕ) (rows : List CacheRow) (row : CacheRow) (at : ℕ)
    (entries texts : List ℕ) → at ≡ first + length (texts_from first rows)
    → entries ≡ entries_from first rows ++ row_entry at row.uid (kept at row.known)
    → texts ≡ texts_from first rows ++ known_text (kept at row.known)
    → record { first = first; entries = entries; texts = texts } ≡ begun first (rows ++ row ∷ [])
one_row_more first rows row at entries texts e p q =
    let here : at ≡ place_behind first rows = e ∙ texts_length first rows in
    let entry : row_entry at row.uid (kept at row.known) ≡ entries_from (place_behind first rows) (row ∷ []) = ap (λ k. row_entry k row.uid (kept k row.known)) here ∙ sym (append-nil _) in
    let text : known_text (kept at row.known) ≡ texts_from (place_behind first rows) (row ∷ []) = ap (λ k. known_text (kept k row.known)) here ∙ sym (append-nil _) in
    let listed : entries ≡ entries_from first (rows ++ row ∷ []) = p ∙ ap (λ t. entries_from first rows ++ t) entry ∙ sym (entries_append first rows (row ∷ [])) in
    let spelled : texts ≡ texts_from first (rows ++ row ∷ []) = q ∙ ap (λ t. texts_from first rows ++ t) text ∙ sym (texts_append first rows (row ∷ [])) in
    rw (listed, spelled) refl

-- so a call that adds a row adds it to those that were added
pub adds_row : {E : Type 0} (was : Begun) (first : ℕ) (entries texts : List ℕ) (row : CacheRow)
    (at : ℕ) (more_entries more_texts : List ℕ) (result : Result Unit E)
    → record { first = first; entries = entries; texts = texts } ≡ was
    → at ≡ first + length texts
    → OnOk result (more_entries ≡ entries ++ row_entry at row.uid (kept at row.known))
    → OnOk result (more_texts ≡ texts ++ known_text (kept at row.known))
    → OnOk result ((place : ℕ) (rows : List CacheRow) → was ≡ begun place rows
    → record { first = first; entries = more_entries; texts = more_texts } ≡ begun place (rows ++ row ∷ []))
adds_row was first entries texts row at more_entries more_texts (Ok u) is e p q = λ place rows begins.
    let same : record { first = first; entries = entries; texts = texts } ≡ begun place rows = is ∙ begins in
    let f : first ≡ place = ap (λ (b : Begun). b.first) same in
    let listed : entries ≡ entries_from place rows = ap (λ (b : Begun). b.entries) same in
    let spelled : texts ≡ texts_from place rows = ap (λ (b : Begun). b.texts) same in
    ap (λ (k : ℕ). record { first = k; entries = more_entries; texts = more_texts }) f
    ∙ one_row_more place rows row at more_entries more_texts
    (e ∙ ap (λ (k : ℕ). k + length texts) f ∙ ap (λ (t : List ℕ). place + length t) spelled)
    (p ∙ ap (λ (t : List ℕ). t ++ row_entry at row.uid (kept at row.known)) listed)
    (q ∙ ap (λ (t : List ℕ). t ++ known_text (kept at row.known)) spelled)
adds_row was first entries texts row at more_entries more_texts (Err u) is e p q = tt

-- ---- the whole file

pub whole_text : (indexid seq : ℕ) (first count size : ℕ) (entries texts text : List ℕ) (rows : List CacheRow)
    → record { first = first; entries = entries; texts = texts } ≡ begun (first_place rows) rows
    → count ≡ length rows → size ≡ first + length texts
    → text ≡ (header_text indexid seq count size ++ entries) ++ texts
    → text ≡ cache_text indexid seq rows
whole_text indexid seq first count size entries texts text rows same n s is =
    let f : first ≡ first_place rows = ap (λ (b : Begun). b.first) same in
    let listed : entries ≡ entries_from (first_place rows) rows = ap (λ (b : Begun). b.entries) same in
    let spelled : texts ≡ texts_from (first_place rows) rows = ap (λ (b : Begun). b.texts) same in
    let place : size ≡ place_behind (first_place rows) rows = s ∙ ap (λ (k : ℕ). k + length texts) f ∙ ap (λ (t : List ℕ). first_place rows + length t) spelled ∙ texts_length (first_place rows) rows in
    is ∙ append_assoc (header_text indexid seq count size) entries texts
    ∙ ap (λ (k : ℕ). header_text indexid seq k size ++ entries ++ texts) n
    ∙ ap (λ (k : ℕ). header_text indexid seq (length rows) k ++ entries ++ texts) place
    ∙ ap (λ (t : List ℕ). header_text indexid seq (length rows) (place_behind (first_place rows) rows) ++ t ++ texts) listed
    ∙ ap (λ (t : List ℕ). header_text indexid seq (length rows) (place_behind (first_place rows) rows) ++ entries_from (first_place rows) rows ++ t) spelled

-- two pieces in turn
pub two_more : (head e t made a b one two : List ℕ) → made ≡ head → a ≡ e → b ≡ t → one ≡ made ++ a
    → two ≡ one ++ b → two ≡ (head ++ e) ++ t
two_more head e t made a b one two h p q r s = s ∙ rw (r, h, p, q) refl

-- four pieces in turn
pub four_more : (out a b c d one two three four : List ℕ) (e f g h : List ℕ) → a ≡ e → b ≡ f → c ≡ g
    → d ≡ h → one ≡ out ++ a → two ≡ one ++ b → three ≡ two ++ c → four ≡ three ++ d
    → four ≡ out ++ (e ++ (f ++ (g ++ h)))
four_more out a b c d one two three four e f g h i j k l p q r s = s ∙ rw (r, q, p, i, j, k, l) (simp append_assoc)
