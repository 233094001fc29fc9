-- What a filter keeps of a list that is cut at a place.
use Rattle.std.proofs.Common.{◌≡◌, ◌⊎◌, inl, inr, ℕ, suc, ◌+◌, ◌-◌, ◌<◌, ◌≤◌, Bool, true, false, cond, List, [], ◌∷◌, ◌++◌, length, get_or, take, drop, refl, sym, ◌∙◌, ap, subst, arith, length-drop}
use Rattle.std.proofs.Math.ListN.{set}
use Rattle.std.proofs.Math.Seq.{split_at}
use Rattle.std.specs.Prelude.{◌&&◌, ◌||◌, All, filter, nat_eq, not, position, Option, Some, None, is_some}
use Rattle.std.specs.List.{list_any}
use Rattle.std.specs.List.Sorted.{IsStrictlyIncreasing}
use Rattle.std.proofs.Math.Bool.{or-false, or-true}
use Rattle.std.proofs.lemmas.Bool.{cases_lt, eq-eqb, eqb-true, ltb-true, ne_eqb}
use Rattle.std.proofs.lemmas.List.{append-nil, get_or-drop, get_or-take, get_or_default, length-take-le, set_split, take-append-drop}
use Rattle.std.proofs.lemmas.List.Elements.{filter-append, recursion_from_All}
use Rattle.std.proofs.lemmas.List.Folds.{list_any-append, list_any_at, list_any_more, list_any_none}
use Rattle.std.proofs.lemmas.List.Kept.{AllPairs-from_increasing}
use Rattle.dv_model.proofs.Clients.{filter_none, filter_same}
use Rattle.dv_model.specs.declared.types.Row.{Row}
use Rattle.dv_rows.specs.Kept.{AreRows}
use Rattle.dv_rows.specs.Parted.{is_among, is_missing}
use Rattle.dv_rows.specs.Places.{IsPlace}
use Rattle.std.proofs.lemmas.List.Quantifiers.{position-Some}
use Rattle.dv_rows.proofs.Named.{no_row}
use Rattle.dv_rows.proofs.PartChanges.{none_there}
use Rattle.dv_rows.proofs.Rising.{apart}

-- tests that agree on a list keep the same of it
pub same_on : {X : Type 0} (p q : X → Bool) (xs : List X) → All (λ x. p x ≡ q x) xs → filter p xs ≡ filter q xs
same_on p q xs all = filter_same p q xs (recursion_from_All (λ x. p x ≡ q x) xs all)

pub none_on : {X : Type 0} (p : X → Bool) (xs : List X) → All (λ x. p x ≡ false) xs → filter p xs ≡ []
none_on p xs all = same_on p (λ x. false) xs all ∙ filter_none xs

pub at_place : {X : Type 0} (p : X → Bool) (xs : List X) (at : ℕ) (d : X) → at < length xs → filter p xs ≡ filter p (take at xs) ++ filter p (get_or xs at d ∷ drop (suc at) xs)
at_place p xs at d h = ap (filter p) (split_at xs at d h) ∙ filter-append p (take at xs) (get_or xs at d ∷ drop (suc at) xs)

pub set_at : {X : Type 0} (p : X → Bool) (xs : List X) (at : ℕ) (y : X) → at < length xs → filter p (set xs at y) ≡ filter p (take at xs) ++ filter p (y ∷ drop (suc at) xs)
set_at p xs at y h = ap (filter p) (set_split xs at y h) ∙ filter-append p (take at xs) (y ∷ drop (suc at) xs)

-- the first test passes one item more than the second, behind all others that it passes
picks : {X : Type 0} (p q : X → Bool) (xs : List X) (at : ℕ) (x : X) → at < length xs → x ≡ get_or xs at x → All (λ y. p y ≡ q y) (take at xs) → p x ≡ true → q x ≡ false
    → All (λ y. p y ≡ false) (drop (suc at) xs) → All (λ y. q y ≡ false) (drop (suc at) xs) → filter p xs ≡ filter q xs ++ x ∷ []
picks p q xs at x h is alike passes fails none also =
    let rest = drop (suc at) xs in
    let one : filter p xs ≡ filter q (take at xs) ++ x ∷ [] =
    at_place p xs at x h ∙ ap (λ y. filter p (take at xs) ++ filter p (y ∷ rest)) (sym is) ∙ ap (λ b. filter p (take at xs) ++ cond b (x ∷ filter p rest) (filter p rest)) passes
    ∙ ap (λ l. filter p (take at xs) ++ x ∷ l) (none_on p rest none) ∙ ap (λ l. l ++ x ∷ []) (same_on p q (take at xs) alike) in
    let other : filter q xs ≡ filter q (take at xs) =
    at_place q xs at x h ∙ ap (λ y. filter q (take at xs) ++ filter q (y ∷ rest)) (sym is) ∙ ap (λ b. filter q (take at xs) ++ cond b (x ∷ filter q rest) (filter q rest)) fails
    ∙ ap (λ l. filter q (take at xs) ++ l) (none_on q rest also) ∙ append-nil (filter q (take at xs)) in
    one ∙ ap (λ l. l ++ x ∷ []) (sym other)

-- ---- the rows with some UIDs

among_more : (uids : List ℕ) (i u : ℕ) → i < length uids → is_among (take (i + 1) uids) u ≡ (is_among (take i uids) u || nat_eq u (get_or uids i 0))
among_more uids i u h = list_any_more (nat_eq u) uids i 0 h

-- the UIDs before a place are below the one there
pub not_among : (uids : List ℕ) (i u : ℕ) → IsStrictlyIncreasing uids → i < length uids → get_or uids i 0 ≤ u → is_among (take i uids) u ≡ false
not_among uids i u up h le =
    list_any_none (nat_eq u) (take i uids)
    (λ k d less.
    let before : k < i = omega (arith, less, length-take-le i uids (omega arith)) in
    let here : get_or (take i uids) k d ≡ get_or uids k d = get_or-take i uids k d before in
    let low : get_or uids k d < get_or uids i d = AllPairs-from_increasing uids up k i d before h in
    let there : get_or uids i d ≡ get_or uids i 0 = get_or_default uids i d 0 h in
    ne_eqb u (get_or (take i uids) k d) (λ e. omega arith))

or_by : (a b : Bool) → b ≡ false → (a || b) ≡ a
or_by a b e = ap (λ c. a || c) e ∙ or-false a

-- a UID that no row has brings none
pub none_more : (rows : List Row) (uids : List ℕ) (i : ℕ) → i < length uids → All (λ row. nat_eq row.uid (get_or uids i 0) ≡ false) rows
    → filter (λ row. is_among (take (i + 1) uids) row.uid) rows ≡ filter (λ row. is_among (take i uids) row.uid) rows
none_more rows uids i h none =
    same_on (λ row. is_among (take (i + 1) uids) row.uid) (λ row. is_among (take i uids) row.uid) rows
    (λ k d less. among_more uids i (get_or rows k d).uid h ∙ or_by (is_among (take i uids) (get_or rows k d).uid) (nat_eq (get_or rows k d).uid (get_or uids i 0)) (none k d less))

-- the row of the next UID is the next row
pub one_more_row : (rows : List Row) (uids : List ℕ) (i at : ℕ) (row : Row) → AreRows rows → IsStrictlyIncreasing uids → i < length uids → at < length rows → row ≡ get_or rows at row → row.uid ≡ get_or uids i 0
    → filter (λ row. is_among (take (i + 1) uids) row.uid) rows ≡ filter (λ row. is_among (take i uids) row.uid) rows ++ row ∷ []
one_more_row rows uids i at row are up h inside is same =
    picks (λ r. is_among (take (i + 1) uids) r.uid) (λ r. is_among (take i uids) r.uid) rows at row inside is alike
    (among_more uids i row.uid h ∙ ap (λ b. is_among (take i uids) row.uid || b) (eq-eqb row.uid (get_or uids i 0) same) ∙ or-true (is_among (take i uids) row.uid))
    (not_among uids i row.uid up h (omega arith)) later (λ k d less. not_among uids i (get_or (drop (suc at) rows) k d).uid up h (let low = beyond k d less in omega arith))
  where
    alike : All (λ r. is_among (take (i + 1) uids) r.uid ≡ is_among (take i uids) r.uid) (take at rows)
    alike k d less =
        let before : k < at = omega (arith, less, length-take-le at rows (omega arith)) in
        let here : get_or (take at rows) k d ≡ get_or rows k d = get_or-take at rows k d before in
        let low : (get_or rows k d).uid < (get_or rows at d).uid = apart rows are k at d before inside in
        let there : (get_or rows at d).uid ≡ row.uid = ap (λ (r : Row). r.uid) (get_or_default rows at d row inside ∙ sym is) in
        let u : (get_or (take at rows) k d).uid ≡ (get_or rows k d).uid = ap (λ (r : Row). r.uid) here in
        among_more uids i (get_or (take at rows) k d).uid h
        ∙ or_by (is_among (take i uids) (get_or (take at rows) k d).uid) (nat_eq (get_or (take at rows) k d).uid (get_or uids i 0)) (ne_eqb (get_or (take at rows) k d).uid (get_or uids i 0) (λ e. omega arith))

    beyond : (k : ℕ) (d : Row) → k < length (drop (suc at) rows) → get_or uids i 0 < (get_or (drop (suc at) rows) k d).uid
    beyond k d less =
        let many : length (drop (suc at) rows) ≡ length rows - suc at = length-drop (suc at) rows in
        let here : (get_or (drop (suc at) rows) k d).uid ≡ (get_or rows (suc at + k) d).uid = ap (λ (r : Row). r.uid) (get_or-drop (suc at) rows k d) in
        let high : (get_or rows at d).uid < (get_or rows (suc at + k) d).uid = apart rows are at (suc at + k) d (omega arith) (omega arith) in
        let there : (get_or rows at d).uid ≡ row.uid = ap (λ (r : Row). r.uid) (get_or_default rows at d row inside ∙ sym is) in
        omega arith

    later : All (λ r. is_among (take (i + 1) uids) r.uid ≡ false) (drop (suc at) rows)
    later k d less =
        let high = beyond k d less in
        among_more uids i (get_or (drop (suc at) rows) k d).uid h
        ∙ or_by (is_among (take i uids) (get_or (drop (suc at) rows) k d).uid) (nat_eq (get_or (drop (suc at) rows) k d).uid (get_or uids i 0)) (ne_eqb (get_or (drop (suc at) rows) k d).uid (get_or uids i 0) (λ e. omega arith))
        ∙ not_among uids i (get_or (drop (suc at) rows) k d).uid up h (omega arith)

-- no UID brings no row
pub none_yet : (rows : List Row) → filter (λ row. is_among [] row.uid) rows ≡ []
none_yet rows = filter_none rows

-- ---- rows that a part lacks

there_by : (uid : ℕ) (rows : List Row) (o : Option ℕ) → position (λ (row : Row). nat_eq row.uid uid) rows ≡ o → is_some o ≡ list_any (λ row. nat_eq row.uid uid) rows
there_by uid rows None e = sym (list_any_none (λ row. nat_eq row.uid uid) rows (none_there uid rows e))
there_by uid rows (Some at) e = let found = position-Some (λ (row : Row). nat_eq row.uid uid) rows at no_row e in sym (list_any_at (λ row. nat_eq row.uid uid) rows at no_row found.0 found.1)

-- a row has a place where one has the UID
pub has_place : (uid : ℕ) (rows : List Row) → is_some (position (λ (row : Row). nat_eq row.uid uid) rows) ≡ list_any (λ row. nat_eq row.uid uid) rows
has_place uid rows = there_by uid rows (position (λ (row : Row). nat_eq row.uid uid) rows) refl

pub turned : (a b : Bool) → a ≡ not b → b ≡ not a
turned true true e = cc
turned true false e = refl
turned false true e = refl
turned false false e = cc

pub not_off : (a b : Bool) → a ≡ not b → a ≡ false → b ≡ true
not_off a true e f = refl
not_off a false e f = cc

later_by : (a b c : Bool) → (a && c) ≡ false → (b ≡ true → c ≡ false) → ((a || b) && c) ≡ false
later_by true b c so_far here = so_far
later_by false true c so_far here = here refl
later_by false false c so_far here = refl

-- a UID of the part isn't missing
pub none_missing : (uids : List ℕ) (part rows : List Row) (i : ℕ) → i < length uids → list_any (λ (row : Row). nat_eq row.uid (get_or uids i 0)) part ≡ true
    → All (λ row. is_missing (take i uids) part row.uid ≡ false) rows → All (λ row. is_missing (take (i + 1) uids) part row.uid ≡ false) rows
none_missing uids part rows i h there so_far k d less =
    let u = (get_or rows k d).uid in
    ap (λ b. b && not (list_any (λ (row : Row). nat_eq row.uid u) part)) (among_more uids i u h)
    ∙ later_by (is_among (take i uids) u) (nat_eq u (get_or uids i 0)) (not (list_any (λ (row : Row). nat_eq row.uid u) part)) (so_far k d less)
    (λ e. ap (λ v. not (list_any (λ (row : Row). nat_eq row.uid v) part)) (eqb-true u (get_or uids i 0) e) ∙ ap not there)

up_by : (uids : List ℕ) (i k d : ℕ) → IsStrictlyIncreasing uids → i + k < length uids → (i < i + k) ⊎ (i + k ≤ i) → get_or uids i 0 ≤ get_or uids (i + k) d
up_by uids i k d up h (inl less) = let more = AllPairs-from_increasing uids up i (i + k) d less h in let there : get_or uids i d ≡ get_or uids i 0 = get_or_default uids i d 0 (omega arith) in omega arith
up_by uids i k d up h (inr same) = let there : get_or uids i d ≡ get_or uids i 0 = get_or_default uids i d 0 (omega arith) in let one : i + k ≡ i = omega arith in subst (λ j. get_or uids i 0 ≤ get_or uids j d) (sym one) (omega arith)

up_to : (uids : List ℕ) (i k d : ℕ) → IsStrictlyIncreasing uids → i + k < length uids → get_or uids i 0 ≤ get_or uids (i + k) d
up_to uids i k d up h = up_by uids i k d up h (cases_lt i (i + k))

among_before : (uids : List ℕ) (i u : ℕ) → IsStrictlyIncreasing uids → i < length uids → u < get_or uids i 0 → is_among uids u ≡ is_among (take i uids) u
among_before uids i u up h less =
    ap (list_any (nat_eq u)) (sym (take-append-drop i uids)) ∙ list_any-append (nat_eq u) (take i uids) (drop i uids) ∙ or_by (is_among (take i uids) u) (list_any (nat_eq u) (drop i uids)) later
  where
    later : list_any (nat_eq u) (drop i uids) ≡ false
    later = list_any_none (nat_eq u) (drop i uids)
        (λ k d inside.
        let many : length (drop i uids) ≡ length uids - i = length-drop i uids in
        let here : get_or (drop i uids) k d ≡ get_or uids (i + k) d = get_or-drop i uids k d in
        let high : get_or uids i 0 ≤ get_or uids (i + k) d = up_to uids i k d up (omega arith) in
        ne_eqb u (get_or (drop i uids) k d) (λ e. omega arith))

-- the rows before the place of the first UID that is missing aren't
pub none_missing_before : (uids : List ℕ) (part rows : List Row) (i at : ℕ) → IsStrictlyIncreasing uids → i < length uids → at ≤ length rows → IsPlace rows (get_or uids i 0) at
    → All (λ row. is_missing (take i uids) part row.uid ≡ false) rows → All (λ row. is_missing uids part row.uid ≡ false) (take at rows)
none_missing_before uids part rows i at up h inside place so_far k d less =
    let before : k < at = omega (arith, less, length-take-le at rows inside) in
    let here : get_or (take at rows) k d ≡ get_or rows k d = get_or-take at rows k d before in
    let low : (get_or rows k d).uid < get_or uids i 0 = ltb-true (get_or rows k d).uid (get_or uids i 0) (place.0 k d (omega arith) before) in
    let u = (get_or rows k d).uid in
    subst (λ (row : Row). is_missing uids part row.uid ≡ false) (sym here)
    (ap (λ b. b && not (list_any (λ (row : Row). nat_eq row.uid u) part)) (among_before uids i u up h low) ∙ so_far k d (omega arith))
