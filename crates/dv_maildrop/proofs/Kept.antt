-- What is kept beside the rows stays right.
use Rattle.std.proofs.Common.{◌≡◌, ℕ, zero, suc, ◌+◌, ◌-◌, ◌<◌, Bool, true, false, not, cond, ◌||◌, List, [], ◌∷◌, ◌++◌, ◌∙◌, length, take, drop, get_or, replicate, map, Some, None, refl, ap, sym, arith, nat_eq}
use Rattle.std.specs.Prelude.{filter, sum_by}
use Rattle.std.specs.List.{list_any, slice_get}
use Rattle.std.proofs.lemmas.Bool.{eq-eqb, ne_eqb}
use Rattle.std.proofs.lemmas.List.{length-replicate, get_or-replicate, take_at}
use Rattle.std.proofs.lemmas.List.Folds.{list_any-append}
use Rattle.std.proofs.lemmas.List.FromFn.{length-enumerate_from}
use Rattle.dv_model.specs.declared.types.Span.{Span}
use Rattle.dv_maildrop.specs.declared.types.Listed.{Listed}
use Rattle.dv_maildrop.specs.Answers.{octets_of}
use Rattle.dv_maildrop.specs.Counts.{IsKept, chosen}
use Rattle.dv_maildrop.specs.Maildrops.{Transaction, is_marked, marked_set, numbered, row_at, row_of, uid_span, unmarked}
use Rattle.dv_maildrop.proofs.Chosen.{chosen_by}
use Rattle.dv_maildrop.proofs.Counting.{all_kept, length_is_sum, one_fewer, sum_numbered}

-- ---- no marks

pub kept_new : (validity : ℕ) (rows : List Listed) (ended : Bool) (marks : List ℕ) (flags : List Bool) (count octets : ℕ) → marks ≡ [] → flags ≡ replicate (length rows) false
    → count ≡ length rows → octets ≡ sum_by (λ row. row.size) rows
    → IsKept (record { uid_validity = validity; rows = rows; marked = marks; ended = ended }) flags count octets octets
kept_new validity rows ended marks flags count octets unmarked_yet is counted sum =
    let m : Transaction = record { uid_validity = validity; rows = rows; marked = []; ended = ended } in
    let total : octets ≡ octets_of (numbered m) = sum ∙ sym (sum_numbered 1 rows) in
    rw unmarked_yet (record {
      size = ap length is ∙ length-replicate (length rows) false;
      each = λ i less. ap (λ (fs : List Bool). get_or fs i false) is ∙ get_or-replicate (length rows) i false false less;
      left = counted ∙ sym (ap length (all_kept (numbered m)) ∙ length-enumerate_from 1 rows);
      sum = total ∙ sym (ap octets_of (all_kept (numbered m)));
      all = total;
    })

pub kept_reset : (m : Transaction) (flags cleared new : List Bool) (marks : List ℕ) (count octets whole left : ℕ) → IsKept m flags count octets whole
    → length cleared ≡ length flags → ((i : ℕ) → i < length flags → get_or cleared i false ≡ false) → marks ≡ [] → new ≡ cleared → left ≡ length m.rows
    → IsKept (record m { marked = marks }) new left whole whole
kept_reset m flags cleared new marks count octets whole left kept same clear none is counted =
    rw (none, is) (record {
      size = same ∙ kept.size;
      each = λ i less. clear i (omega (arith, less, kept.size));
      left = counted ∙ sym (ap length (all_kept (numbered m)) ∙ length-enumerate_from 1 m.rows);
      sum = kept.all ∙ sym (ap octets_of (all_kept (numbered m)));
      all = kept.all;
    })

-- ---- one mark more

swapped : (a b : Bool) → (a || (b || false)) ≡ cond b true a
swapped true true = refl
swapped true false = refl
swapped false true = refl
swapped false false = refl

mark_more : (marks : List ℕ) (k j : ℕ) → list_any (nat_eq j) (marks ++ k ∷ []) ≡ cond (nat_eq j k) true (list_any (nat_eq j) marks)
mark_more marks k j = list_any-append (nat_eq j) marks (k ∷ []) ∙ swapped (list_any (nat_eq j) marks) (nat_eq j k)

-- one number is taken out, and its flag back
pub mark_taken : (numbers front : List ℕ) (number : ℕ) (flags new : List Bool) → numbers ≡ front ++ number ∷ [] → length new ≡ length flags
    → ((i : ℕ) → i < length flags → get_or new i false ≡ cond (nat_eq (i + 1) number) false (get_or flags i false))
    → ((i : ℕ) → i < length flags → list_any (nat_eq (i + 1)) numbers ≡ false → get_or flags i false ≡ false)
    → (i : ℕ) → i < length new → list_any (nat_eq (i + 1)) front ≡ false → get_or new i false ≡ false
mark_taken numbers front number flags new parts same each before i less none =
    let inside : i < length flags = omega (arith, less, same) in
    each i inside ∙ by_number (nat_eq (i + 1) number) refl inside
  where
    by_number : (b : Bool) → nat_eq (i + 1) number ≡ b → i < length flags → cond (nat_eq (i + 1) number) false (get_or flags i false) ≡ false
    by_number true is inside = ap (λ t. cond t false (get_or flags i false)) is
    by_number false is inside =
        ap (λ t. cond t false (get_or flags i false)) is
        ∙ before i inside (ap (list_any (nat_eq (i + 1))) parts ∙ mark_more front number (i + 1) ∙ ap (λ t. cond t true (list_any (nat_eq (i + 1)) front)) is ∙ none)

-- a row that may be marked
pub row_found : (m : Transaction) (k : ℕ) (row : Listed) → row_of m k ≡ Some row
    → (is_marked m k ≡ false) × ((j : ℕ) × (k ≡ 1 + j) × (slice_get m.rows j ≡ Some row))
row_found m k row e = by_mark (is_marked m k) refl e
  where
    by_number : (n : ℕ) → row_at m.rows n ≡ Some row → (j : ℕ) × (n ≡ 1 + j) × (slice_get m.rows j ≡ Some row)
    by_number zero f = absurd cc
    by_number (suc j) f = (j, omega arith, f)

    by_mark : (b : Bool) → is_marked m k ≡ b → cond b None (row_at m.rows k) ≡ Some row → (is_marked m k ≡ false) × ((j : ℕ) × (k ≡ 1 + j) × (slice_get m.rows j ≡ Some row))
    by_mark true is f = absurd cc
    by_mark false is f = (is, by_number k f)

abbrev with_mark : Transaction → ℕ → Transaction
with_mark m k = record m { marked = m.marked ++ k ∷ [] }

sum_fewer : (f : ℕ × Listed → ℕ) (m : Transaction) (k : ℕ) (row : Listed) → row_of m k ≡ Some row
    → sum_by f (unmarked m) ≡ f (k, row) + sum_by f (unmarked (with_mark m k))
sum_fewer f m k row e =
    let is = row_found m k row e in
    let now : is_marked (with_mark m k) k ≡ true = mark_more m.marked k k ∙ ap (λ b. cond b true (list_any (nat_eq k) m.marked)) (eq-eqb k k refl) in
    one_fewer f (λ j. not (is_marked m j)) (λ j. not (is_marked (with_mark m k) j)) 1 is.1.0 k m.rows row is.1.1 is.1.2
    (ap not is.0) (ap not now)
    (λ j other. ap not (sym (mark_more m.marked k j ∙ ap (λ b. cond b true (list_any (nat_eq j) m.marked)) (ne_eqb j k other))))

pub count_fewer : (m : Transaction) (k : ℕ) (row : Listed) → row_of m k ≡ Some row
    → length (unmarked m) ≡ 1 + length (unmarked (with_mark m k))
count_fewer m k row e =
    length_is_sum (unmarked m) ∙ sum_fewer (λ r. 1) m k row e ∙ ap (λ n. 1 + n) (sym (length_is_sum (unmarked (with_mark m k))))

pub octets_fewer : (m : Transaction) (k : ℕ) (row : Listed) → row_of m k ≡ Some row
    → octets_of (unmarked m) ≡ row.size + octets_of (unmarked (with_mark m k))
octets_fewer m k row e = sum_fewer (λ r. r.1.size) m k row e

pub kept_marked : (m : Transaction) (k : ℕ) (row : Listed) (flags set new : List Bool) (marks : List ℕ) (count octets whole size : ℕ) → IsKept m flags count octets whole
    → row_of m k ≡ Some row → length set ≡ length flags
    → ((i : ℕ) → i < length flags → get_or set i false ≡ cond (nat_eq (i + 1) k) true (get_or flags i false))
    → marks ≡ m.marked ++ k ∷ [] → new ≡ set → size ≡ row.size
    → IsKept (record m { marked = marks }) new (count - 1) (octets - size) whole
kept_marked m k row flags set new marks count octets whole size kept found same each more is of_row =
    let fewer = count_fewer m k row found in
    let smaller = octets_fewer m k row found in
    rw (more, is) (record {
      size = same ∙ kept.size;
      each = λ i less.
          each i (omega (arith, less, kept.size))
          ∙ ap (λ b. cond (nat_eq (i + 1) k) true b) (kept.each i less)
          ∙ sym (mark_more m.marked k (i + 1));
      left = omega (arith, kept.left, fewer);
      sum = omega (arith, kept.sum, smaller, of_row);
      all = kept.all;
    })

-- ---- what is chosen

pub unmarked_are : (m : Transaction) (flags : List Bool) (count octets whole : ℕ) → IsKept m flags count octets whole
    → chosen not 1 m.rows flags ≡ unmarked m
unmarked_are m flags count octets whole kept = chosen_by not (is_marked m) 1 m.rows flags kept.size (λ i less. kept.each i less ∙ ap (is_marked m) (omega arith))

pub marked_are : (m : Transaction) (flags : List Bool) (count octets whole : ℕ) → IsKept m flags count octets whole
    → map (λ row. uid_span row.1.uid) (chosen (λ flag. flag) 1 m.rows flags) ≡ marked_set m
marked_are m flags count octets whole kept =
    ap (λ (rows : List (ℕ × Listed)). map (λ row. uid_span row.1.uid) rows) (chosen_by (λ flag. flag) (is_marked m) 1 m.rows flags kept.size (λ i less. kept.each i less ∙ ap (is_marked m) (omega arith)))
    ∙ spans_are (filter (λ row. is_marked m row.0) (numbered m))
  where
    spans_are : (rows : List (ℕ × Listed)) → map (λ row. uid_span row.1.uid) rows ≡ map uid_span (map (λ row. row.1.uid) rows)
    spans_are [] = refl
    spans_are (row ∷ rows) = ap (λ (spans : List Span). uid_span row.1.uid ∷ spans) (spans_are rows)

-- ---- through a slice of a vector

pub written_back : (len : ℕ) (new old : List Bool) → length new ≡ len → take len (new ++ drop (length new) old) ≡ new
written_back len new old e = ap (λ n. take n (new ++ drop (length new) old)) (sym e) ∙ take_at new (drop (length new) old) (length new) refl
