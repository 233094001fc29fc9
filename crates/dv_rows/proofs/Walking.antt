-- Rows with numbers beside them, and what is done to those in ranges in turn.
use Rattle.std.proofs.Common.{◌≡◌, ◌⊎◌, inl, inr, ℕ, zero, suc, ◌+◌, ◌-◌, ◌<◌, ◌≤◌, Bool, true, false, cond, List, [], ◌∷◌, ◌++◌, length, get_or, take, drop, refl, sym, ◌∙◌, ap, subst, arith, length-drop, length-set}
use Rattle.std.proofs.Math.ListN.{set}
use Rattle.std.specs.Prelude.{All, filter, map, nat_le, ◌&&◌, ◌||◌}
use Rattle.std.proofs.lemmas.Bool.{cases_lt, ltb-true, ltb-false}
use Rattle.std.proofs.lemmas.Bool.Decides.{nat_tests}
use Rattle.std.proofs.lemmas.List.{get_or-append_right, get_or-drop, get_or-map, get_or-take, get_or_default, length-map, length-take-le, map-append, take-append-drop, take_more}
use Rattle.std.specs.List.{SwappedAt, list_any}
use Rattle.std.proofs.lemmas.List.Edits.{map_over_more}
use Rattle.std.proofs.lemmas.List.Elements.{All-head, All-tail}
use Rattle.std.proofs.lemmas.List.Filters.{FiltersInPlace}
use Rattle.std.proofs.lemmas.List.Folds.{list_any-append, map_fixed}
use Rattle.std.proofs.Math.Bool.{or-false}
use Rattle.std.proofs.lemmas.List.Sums.{fold_more}
use Rattle.dv_model.specs.declared.types.Row.{Row}
use Rattle.dv_validity.proofs.Rows.{map_map, map_same}
use Rattle.dv_rows.specs.Kept.{AreRows}
use Rattle.dv_rows.specs.Noted.{Noted, by_range, by_ranges, has, noted, with_note}
use Rattle.dv_rows.specs.Places.{IsPlace}
use Rattle.dv_rows.proofs.Rising.{no_fall}

-- ---- rows with numbers

pub noted_length : (rows : List Row) (notes : List ℕ) → length notes ≡ length rows → length (noted rows notes) ≡ length rows
noted_length [] notes many = refl
noted_length (row ∷ rows) [] many = cc
noted_length (row ∷ rows) (note ∷ notes) many = ap suc (noted_length rows notes (omega (arith, many)))

pub noted_rows : (rows : List Row) (notes : List ℕ) → length notes ≡ length rows → map (λ p. p.row) (noted rows notes) ≡ rows
noted_rows [] notes many = refl
noted_rows (row ∷ rows) [] many = cc
noted_rows (row ∷ rows) (note ∷ notes) many = ap (λ l. row ∷ l) (noted_rows rows notes (omega (arith, many)))

pub noted_notes : (rows : List Row) (notes : List ℕ) → length notes ≡ length rows → map (λ p. p.note) (noted rows notes) ≡ notes
noted_notes [] [] many = refl
noted_notes [] (note ∷ notes) many = cc
noted_notes (row ∷ rows) [] many = cc
noted_notes (row ∷ rows) (note ∷ notes) many = ap (λ l. note ∷ l) (noted_notes rows notes (omega (arith, many)))

pub noted_set : (rows : List Row) (notes : List ℕ) (i : ℕ) (row : Row) (note : ℕ) → length notes ≡ length rows
    → noted (set rows i row) (set notes i note) ≡ set (noted rows notes) i (with_note row note)
noted_set [] [] i row note many = refl
noted_set [] (n ∷ notes) i row note many = refl
noted_set (r ∷ rows) [] i row note many = cc
noted_set (r ∷ rows) (n ∷ notes) zero row note many = refl
noted_set (r ∷ rows) (n ∷ notes) (suc i) row note many = ap (λ l. with_note r n ∷ l) (noted_set rows notes i row note (omega (arith, many)))

pub noted_get : (rows : List Row) (notes : List ℕ) (i : ℕ) (d : Noted) → length notes ≡ length rows
    → get_or (noted rows notes) i d ≡ with_note (get_or rows i d.row) (get_or notes i d.note)
noted_get [] [] i d many = refl
noted_get [] (n ∷ notes) i d many = cc
noted_get (r ∷ rows) [] i d many = cc
noted_get (r ∷ rows) (n ∷ notes) zero d many = refl
noted_get (r ∷ rows) (n ∷ notes) (suc i) d many = noted_get rows notes i d (omega (arith, many))

-- each row with its flags beside it
pub noted_flags : (rows : List Row) → noted rows (map (λ row. row.flags) rows) ≡ map (λ row. with_note row row.flags) rows
noted_flags [] = refl
noted_flags (row ∷ rows) = ap (λ l. with_note row row.flags ∷ l) (noted_flags rows)

-- two lists of rows with the same UIDs
all_uids : (b : ℕ) (rows : List Row) → All (λ x. x < b) (map (λ row. row.uid) rows) → All (λ row. row.uid < b) rows
all_uids b rows all k d h =
    let long : length (map (λ (row : Row). row.uid) rows) ≡ length rows = length-map rows (λ (row : Row). row.uid) in
    let same : get_or (map (λ (row : Row). row.uid) rows) k 0 ≡ (get_or rows k d).uid = get_or-map (λ (row : Row). row.uid) rows k d 0 h in
    subst (λ x. x < b) same (all k 0 (omega arith))

map_uids : (b : ℕ) (rows : List Row) → All (λ row. row.uid < b) rows → All (λ x. x < b) (map (λ row. row.uid) rows)
map_uids b rows all k d h =
    let long : length (map (λ (row : Row). row.uid) rows) ≡ length rows = length-map rows (λ (row : Row). row.uid) in
    let none : Row = record { uid = 0; flags = 0; keywords = []; parts = []; modseq = 0 } in
    let same : get_or (map (λ (row : Row). row.uid) rows) k d ≡ (get_or rows k none).uid = get_or-map (λ (row : Row). row.uid) rows k none d (omega arith) in
    subst (λ x. x < b) (sym same) (all k none (omega arith))

pub same_uids : (rows new : List Row) → map (λ row. row.uid) new ≡ map (λ row. row.uid) rows → AreRows rows → AreRows new
same_uids rows new same are = record {
  rising = rw same are.rising;
  below = all_uids _ new (rw same (map_uids _ rows are.below));
}

-- ---- one range

skipped : {X : Type 0} (first last : X → ℕ) (after : X → Noted → Noted) (p : Noted) (range : X) → has first last p.row.uid range ≡ false → by_range first last after p range ≡ p
skipped first last after p range e = ap (λ b. cond b (after range p) p) e

done : {X : Type 0} (first last : X → ℕ) (after : X → Noted → Noted) (p : Noted) (range : X) → has first last p.row.uid range ≡ true → by_range first last after p range ≡ after range p
done first last after p range e = ap (λ b. cond b (after range p) p) e

pub too_low : (a b uid : ℕ) → uid < a → (nat_le a uid && nat_le uid b) ≡ false
too_low a b uid h = grind (arith, nat_tests)

pub too_high : (a b uid : ℕ) → b < uid → (nat_le a uid && nat_le uid b) ≡ false
too_high a b uid h = grind (arith, nat_tests)

pub within : (a b uid : ℕ) → a ≤ uid → uid ≤ b → (nat_le a uid && nat_le uid b) ≡ true
within a b uid low high = grind (arith, nat_tests)

-- the rows before the place stay, those before another are done, and the others are as before
pub record WalksTo {X : Type 0} (first last : X → ℕ) (after : X → Noted → Noted) (range : X) (rows : List Row) (notes : List ℕ) (from at : ℕ) (new : List Row) (now : List ℕ) : Type 0 where
  pub place : IsPlace rows (first range) from
  pub order : from ≤ at
  pub inside : at ≤ length rows
  pub many : length notes ≡ length rows
  pub same : length new ≡ length rows
  pub also : length now ≡ length rows
  pub is : noted new now ≡ map (λ p. by_range first last after p range) (take at (noted rows notes)) ++ drop at (noted rows notes)

pub walk_starts : {X : Type 0} (first last : X → ℕ) (after : X → Noted → Noted) (range : X) (rows : List Row) (notes : List ℕ) (at : ℕ)
    → IsPlace rows (first range) at → at ≤ length rows → length notes ≡ length rows → WalksTo first last after range rows notes at at rows notes
walk_starts first last after range rows notes at place inside many = record {
  place = place;
  order = omega arith;
  inside = inside;
  many = many;
  same = refl;
  also = many;
  is = sym (ap (λ l. l ++ drop at (noted rows notes)) (map_fixed (λ p. by_range first last after p range) (take at (noted rows notes)) stay) ∙ take-append-drop at (noted rows notes));
}
  where
    long : length (noted rows notes) ≡ length rows
    long = noted_length rows notes many

    stay : All (λ p. by_range first last after p range ≡ p) (take at (noted rows notes))
    stay k d h =
        let less : k < at = omega (arith, h, length-take-le at (noted rows notes) (omega (arith, long, inside))) in
        let here : get_or (take at (noted rows notes)) k d ≡ with_note (get_or rows k d.row) (get_or notes k d.note) = get_or-take at (noted rows notes) k d less ∙ noted_get rows notes k d many in
        let low : (get_or rows k d.row).uid < first range = ltb-true (get_or rows k d.row).uid (first range) (place.0 k d.row (omega (arith, less, inside)) less) in
        subst (λ p. by_range first last after p range ≡ p) (sym here)
        (skipped first last after (with_note (get_or rows k d.row) (get_or notes k d.note)) range (too_low (first range) (last range) (get_or rows k d.row).uid low))

-- the row at the place is as it was
pub here_still : {X : Type 0} (first last : X → ℕ) (after : X → Noted → Noted) (range : X) (rows : List Row) (notes : List ℕ) (from at : ℕ) (new : List Row) (now : List ℕ)
    → WalksTo first last after range rows notes from at new now → at < length rows → (d : Noted) → get_or (noted new now) at d ≡ get_or (noted rows notes) at d
here_still first last after range rows notes from at new now so_far less d =
    let P = noted rows notes in
    let long : length P ≡ length rows = noted_length rows notes so_far.many in
    let front : length (map (λ p. by_range first last after p range) (take at P)) ≡ at = length-map (take at P) (λ p. by_range first last after p range) ∙ length-take-le at P (omega arith) in
    ap (λ l. get_or l at d) so_far.is ∙ get_or-append_right (map (λ p. by_range first last after p range) (take at P)) (drop at P) at at d front (omega arith)
    ∙ get_or-drop at P (at - at) d ∙ ap (λ k. get_or P k d) (omega arith)

pub walk_goes_on : {X : Type 0} (first last : X → ℕ) (after : X → Noted → Noted) (range : X) (rows : List Row) (notes : List ℕ) (from at : ℕ) (new : List Row) (now : List ℕ) (later : List Row) (then : List ℕ)
    → WalksTo first last after range rows notes from at new now → at < length rows → ((d : Noted) → (get_or (noted new now) at d).row.uid ≤ last range)
    → length later ≡ length rows → length then ≡ length rows
    → ((d : Noted) → noted later then ≡ set (noted new now) at (after range (get_or (noted new now) at d)))
    → WalksTo first last after range rows notes from (at + 1) later then
walk_goes_on first last after range rows notes from at new now later then so_far less high same also step = record {
  place = so_far.place;
  order = omega (arith, so_far.order);
  inside = omega arith;
  many = so_far.many;
  same = same;
  also = also;
  is =
      step none ∙ ap (set (noted new now) at) (sym (done first last after x range has_it))
      ∙ map_over_more (λ p. by_range first last after p range) (noted rows notes) (noted new now) at x (omega (arith, less, long)) so_far.is (get_or_default (noted new now) at none x (omega (arith, less, here)));
}
  where
    none : Noted
    none = with_note (record { uid = 0; flags = 0; keywords = []; parts = []; modseq = 0 }) 0

    x : Noted
    x = get_or (noted new now) at none

    long : length (noted rows notes) ≡ length rows
    long = noted_length rows notes so_far.many

    here : length (noted new now) ≡ length rows
    here = noted_length new now (so_far.also ∙ sym so_far.same) ∙ so_far.same

    was : x ≡ with_note (get_or rows at none.row) (get_or notes at none.note)
    was = here_still first last after range rows notes from at new now so_far less none ∙ noted_get rows notes at none so_far.many

    has_it : has first last x.row.uid range ≡ true
    has_it =
        let low : first range ≤ (get_or rows at none.row).uid = ltb-false (get_or rows at none.row).uid (first range) (so_far.place.1 at none.row so_far.order less) in
        let same : x.row.uid ≡ (get_or rows at none.row).uid = ap (λ (p : Noted). p.row.uid) was in
        within (first range) (last range) x.row.uid (omega arith) (high none)

pub walk_ends : {X : Type 0} (first last : X → ℕ) (after : X → Noted → Noted) (range : X) (rows : List Row) (notes : List ℕ) (from at : ℕ) (new : List Row) (now : List ℕ)
    → AreRows rows → WalksTo first last after range rows notes from at new now → (at < length rows → (d : Noted) → last range < (get_or (noted new now) at d).row.uid)
    → noted new now ≡ map (λ p. by_range first last after p range) (noted rows notes)
walk_ends first last after range rows notes from at new now are so_far past =
    let g : Noted → Noted = λ p. by_range first last after p range in
    let P = noted rows notes in
    so_far.is ∙ ap (λ l. map g (take at P) ++ l) (sym (map_fixed g (drop at P) stay)) ∙ sym (map-append g (take at P) (drop at P)) ∙ ap (map g) (take-append-drop at P)
  where
    stay : All (λ p. by_range first last after p range ≡ p) (drop at (noted rows notes))
    stay k d h =
        let long : length (noted rows notes) ≡ length rows = noted_length rows notes so_far.many in
        let less : at + k < length rows = omega (arith, h, length-drop at (noted rows notes)) in
        let here : get_or (drop at (noted rows notes)) k d ≡ with_note (get_or rows (at + k) d.row) (get_or notes (at + k) d.note) = get_or-drop at (noted rows notes) k d ∙ noted_get rows notes (at + k) d so_far.many in
        let was : (get_or (noted new now) at d).row.uid ≡ (get_or rows at d.row).uid = ap (λ (p : Noted). p.row.uid) (here_still first last after range rows notes from at new now so_far (omega arith) d ∙ noted_get rows notes at d so_far.many) in
        let high : last range < (get_or (noted new now) at d).row.uid = past (omega arith) d in
        let up : (get_or rows at d.row).uid ≤ (get_or rows (at + k) d.row).uid = no_fall rows are at (at + k) d.row (omega arith) less in
        subst (λ p. by_range first last after p range ≡ p) (sym here)
        (skipped first last after (with_note (get_or rows (at + k) d.row) (get_or notes (at + k) d.note)) range (too_high (first range) (last range) (get_or rows (at + k) d.row).uid (omega arith)))

-- ---- the ranges in turn

uid_by : {X : Type 0} (after : X → Noted → Noted) → ((r : X) (p : Noted) → (after r p).row.uid ≡ p.row.uid) → (b : Bool) (r : X) (p : Noted) → (cond b (after r p) p).row.uid ≡ p.row.uid
uid_by after keeps true r p = keeps r p
uid_by after keeps false r p = refl

pub ranges_uid : {X : Type 0} (first last : X → ℕ) (after : X → Noted → Noted) → ((r : X) (p : Noted) → (after r p).row.uid ≡ p.row.uid) → (ranges : List X) (p : Noted) → (by_ranges first last after ranges p).row.uid ≡ p.row.uid
ranges_uid first last after keeps [] p = refl
ranges_uid first last after keeps (r ∷ ranges) p = ranges_uid first last after keeps ranges (by_range first last after p r) ∙ uid_by after keeps (has first last p.row.uid r) r p

-- rows stay rows
pub still_rows : {X : Type 0} (first last : X → ℕ) (after : X → Noted → Noted) → ((r : X) (p : Noted) → (after r p).row.uid ≡ p.row.uid) → (ranges : List X) (rows : List Row) (notes : List ℕ) (new : List Row) (now : List ℕ)
    → length notes ≡ length rows → length now ≡ length new → noted new now ≡ map (by_ranges first last after ranges) (noted rows notes) → AreRows rows → AreRows new
still_rows first last after keeps ranges rows notes new now many also is are =
    let uid : Noted → ℕ = λ p. p.row.uid in
    let rows_uid : map (λ (row : Row). row.uid) rows ≡ map uid (noted rows notes) = ap (map (λ (row : Row). row.uid)) (sym (noted_rows rows notes many)) ∙ map_map (λ (row : Row). row.uid) (λ (p : Noted). p.row) (noted rows notes) in
    let new_uid : map (λ (row : Row). row.uid) new ≡ map uid (noted new now) = ap (map (λ (row : Row). row.uid)) (sym (noted_rows new now also)) ∙ map_map (λ (row : Row). row.uid) (λ (p : Noted). p.row) (noted new now) in
    same_uids rows new
    (new_uid ∙ ap (map uid) is ∙ map_map uid (by_ranges first last after ranges) (noted rows notes) ∙ map_same (λ p. (by_ranges first last after ranges p).row.uid) uid (ranges_uid first last after keeps ranges) (noted rows notes) ∙ sym rows_uid)
    are

pub one_more : {X : Type 0} (first last : X → ℕ) (after : X → Noted → Noted) (ranges : List X) (i : ℕ) (d : X) (start rows new : List Noted) → i < length ranges
    → rows ≡ map (by_ranges first last after (take i ranges)) start → new ≡ map (λ p. by_range first last after p (get_or ranges i d)) rows
    → new ≡ map (by_ranges first last after (take (i + 1) ranges)) start
one_more first last after ranges i d start rows new less so_far is =
    is ∙ ap (map (λ p. by_range first last after p (get_or ranges i d))) so_far
    ∙ map_map (λ p. by_range first last after p (get_or ranges i d)) (by_ranges first last after (take i ranges)) start
    ∙ map_same (λ p. by_range first last after (by_ranges first last after (take i ranges) p) (get_or ranges i d)) (by_ranges first last after (take (i + 1) ranges)) (λ p. sym (fold_more (by_range first last after) p ranges i d less)) start

-- ---- rows that leave

pub noted_take : (n : ℕ) (rows : List Row) (notes : List ℕ) → noted (take n rows) (take n notes) ≡ take n (noted rows notes)
noted_take zero rows notes = refl
noted_take (suc n) [] notes = refl
noted_take (suc n) (row ∷ rows) [] = refl
noted_take (suc n) (row ∷ rows) (note ∷ notes) = ap (λ l. with_note row note ∷ l) (noted_take n rows notes)

pub noted_swapped : (rows new : List Row) (notes now : List ℕ) (i j : ℕ) → length notes ≡ length rows → length now ≡ length new
    → SwappedAt rows new i j → SwappedAt notes now i j → SwappedAt (noted rows notes) (noted new now) i j
noted_swapped rows new notes now i j many also a b = (
  λ d. noted_get new now i d also ∙ ap (λ r. with_note r (get_or now i d.note)) (a.0 d.row) ∙ ap (with_note (get_or rows j d.row)) (b.0 d.note) ∙ sym (noted_get rows notes j d many),
  λ d. noted_get new now j d also ∙ ap (λ r. with_note r (get_or now j d.note)) (a.1 d.row) ∙ ap (with_note (get_or rows i d.row)) (b.1 d.note) ∙ sym (noted_get rows notes i d many),
  λ k d p q. noted_get new now k d also ∙ ap (λ r. with_note r (get_or now k d.note)) (a.2 k d.row p q) ∙ ap (with_note (get_or rows k d.row)) (b.2 k d.note p q) ∙ sym (noted_get rows notes k d many),
  λ d.
      ap (λ r. noted r now) (a.3 d.row) ∙ ap (noted (set (set rows i (get_or rows j d.row)) j (get_or rows i d.row))) (b.3 d.note)
      ∙ noted_set (set rows i (get_or rows j d.row)) (set notes i (get_or notes j d.note)) j (get_or rows i d.row) (get_or notes i d.note)
      (length-set notes i (get_or notes j d.note) ∙ many ∙ sym (length-set rows i (get_or rows j d.row)))
      ∙ ap (λ l. set l j (with_note (get_or rows i d.row) (get_or notes i d.note))) (noted_set rows notes i (get_or rows j d.row) (get_or notes j d.note) many)
      ∙ ap (λ p. set (set (noted rows notes) i p) j (with_note (get_or rows i d.row) (get_or notes i d.note))) (sym (noted_get rows notes j d many))
      ∙ ap (set (set (noted rows notes) i (get_or (noted rows notes) j d)) j) (sym (noted_get rows notes i d many)),
)

filter_all : {X : Type 0} (p : X → Bool) (xs : List X) → All (λ x. p x ≡ true) xs → filter p xs ≡ xs
filter_all p [] all = refl
filter_all p (x ∷ xs) all =
    ap (λ b. cond b (x ∷ filter p xs) (filter p xs)) (All-head (λ y. p y ≡ true) x xs all) ∙ ap (λ l. x ∷ l) (filter_all p xs (All-tail (λ y. p y ≡ true) x xs all))

pub filter_starts : {X : Type 0} (p : X → Bool) (xs : List X) (from : ℕ) → from ≤ length xs → All (λ x. p x ≡ true) (take from xs) → FiltersInPlace p xs xs from from
filter_starts p xs from inside all = record {
  front = sym (filter_all p (take from xs) all);
  rest = refl;
  behind = omega arith;
  within = inside;
  long = refl;
}

pub any_more : {X : Type 0} (test : X → Bool) (xs : List X) (i : ℕ) (x : X) → i < length xs → x ≡ get_or xs i x → list_any test (take i xs) ≡ false → test x ≡ false → list_any test (take (i + 1) xs) ≡ false
any_more test xs i x less is none out =
    ap (list_any test) (take_more xs i x less ∙ ap (λ y. take i xs ++ y ∷ []) (sym is)) ∙ list_any-append test (take i xs) (x ∷ []) ∙ ap (λ b. b || (test x || false)) none ∙ or-false (test x) ∙ out

-- no row before a place is in a further range
pub none_before : {X : Type 0} (first last : X → ℕ) (rows : List Row) (ranges : List X) (range : X) (i was now : ℕ) → i < length ranges → range ≡ get_or ranges i range
    → All (λ row. list_any (has first last row.uid) (take i ranges) ≡ false) (take was rows) → was ≤ length rows → now ≤ was
    → ((k : ℕ) (d : Row) → k < now → has first last (get_or rows k d).uid range ≡ false)
    → All (λ row. list_any (has first last row.uid) (take (i + 1) ranges) ≡ false) (take now rows)
none_before first last rows ranges range i was now less is so_far inside le out k d h =
    let at : k < now = omega (arith, h, length-take-le now rows (omega arith)) in
    let here : get_or (take now rows) k d ≡ get_or rows k d = get_or-take now rows k d at in
    let before : get_or (take was rows) k d ≡ get_or rows k d = get_or-take was rows k d (omega arith) in
    let there : k < length (take was rows) = omega (arith, length-take-le was rows inside) in
    subst (λ (row : Row). list_any (has first last row.uid) (take (i + 1) ranges) ≡ false) (sym here)
    (any_more (has first last (get_or rows k d).uid) ranges i range less is
    (subst (λ (row : Row). list_any (has first last row.uid) (take i ranges) ≡ false) before (so_far k d there)) (out k d at))

outside_by : {X : Type 0} (first last : X → ℕ) (rows : List Row) (range : X) (at : ℕ) → AreRows rows → IsPlace rows (first range) at → at < length rows → ((d : Row) → last range < (get_or rows at d).uid)
    → (k : ℕ) (d : Row) → k < length rows → (k < at) ⊎ (at ≤ k) → has first last (get_or rows k d).uid range ≡ false
outside_by first last rows range at are place inside past k d h (inl less) = too_low (first range) (last range) (get_or rows k d).uid (ltb-true (get_or rows k d).uid (first range) (place.0 k d (omega arith) less))
outside_by first last rows range at are place inside past k d h (inr more) =
    let high = past d in
    let up = no_fall rows are at k d more h in
    too_high (first range) (last range) (get_or rows k d).uid (omega arith)

-- a range that ends before the row at its place has no row
pub outside : {X : Type 0} (first last : X → ℕ) (rows : List Row) (range : X) (at : ℕ) → AreRows rows → IsPlace rows (first range) at → at < length rows → ((d : Row) → last range < (get_or rows at d).uid)
    → (k : ℕ) (d : Row) → k < length rows → has first last (get_or rows k d).uid range ≡ false
outside first last rows range at are place inside past k d h = outside_by first last rows range at are place inside past k d h (cases_lt k at)

-- no row before a range's place is in it
pub below : {X : Type 0} (first last : X → ℕ) (rows : List Row) (range : X) (at : ℕ) → IsPlace rows (first range) at → (k : ℕ) (d : Row) → k < at → k < length rows → has first last (get_or rows k d).uid range ≡ false
below first last rows range at place k d less h = too_low (first range) (last range) (get_or rows k d).uid (ltb-true (get_or rows k d).uid (first range) (place.0 k d (omega arith) less))
