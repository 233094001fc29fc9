-- Choosing goes through the ends of the ranges, and then through the rows.
use Rattle.std.proofs.Common.{◌≡◌, ℕ, suc, ◌+◌, ◌<◌, Bool, true, false, cond, ◌||◌, List, [], ◌∷◌, ◌++◌, length, get_or, take, drop, map, Option, Some, None, find, nat_eq, nat_lt, refl, sym, ◌∙◌, ap, arith}
use Rattle.std.specs.List.{filter, enumerate_from, flat_map}
use Rattle.std.specs.Option.{option_or}
use Rattle.std.proofs.lemmas.List.{take_more, map-append, length-take, append-nil, take-append-drop}
use Rattle.std.proofs.lemmas.List.Elements.{filter-append}
use Rattle.std.proofs.lemmas.List.Folds.{find-append}
use Rattle.std.proofs.lemmas.Grind.{flat_map-append}
use Rattle.std.specs.Prelude.{is_some}
use Rattle.std.proofs.lemmas.Bool.{false≢true, true≢false}
use Rattle.dv_model.specs.declared.types.Shown.{Shown}
use Rattle.dv_model.specs.declared.types.Span.{Span}
use Rattle.dv_model.specs.Sets.{end_value, ends, missing_end}
use Rattle.dv_model.specs.Views.{View}

-- ---- ends

-- an end that is no message number among so many
abbrev pub is_missing : ℕ → ℕ → Bool
is_missing count n = nat_eq n 0 || nat_lt count n

-- what is found so far, and in one item more
pub found_more : {A B : Type 0} (p : B → Bool) (f : A → List B) (xs : List A) (i : ℕ) (d : A)
    → i < length xs
    → find p (flat_map f (take (i + 1) xs)) ≡ option_or (find p (flat_map f (take i xs))) (find p (f (get_or xs i d)))
found_more p f xs i d less =
    ap (λ ys. find p (flat_map f ys)) (take_more xs i d less) ∙ ap (find p) (flat_map-append f (take i xs) (get_or xs i d ∷ []) ∙ ap (λ t. flat_map f (take i xs) ++ t) (append-nil (f (get_or xs i d)))) ∙ find-append p (flat_map f (take i xs)) (f (get_or xs i d))

-- what is found in the first items is found in all
pub found_early : {A B : Type 0} (p : B → Bool) (f : A → List B) (xs : List A) (i : ℕ) (x : B)
    → find p (flat_map f (take i xs)) ≡ Some x → find p (flat_map f xs) ≡ Some x
found_early p f xs i x e =
    ap (λ ys. find p (flat_map f ys)) (sym (take-append-drop i xs)) ∙ ap (find p) (flat_map-append f (take i xs) (drop i xs)) ∙ find-append p (flat_map f (take i xs)) (flat_map f (drop i xs)) ∙ ap (λ o. option_or o (find p (flat_map f (drop i xs)))) e

abbrev ends_of : ℕ → Span → List ℕ
ends_of count span = end_value count span.from ∷ end_value count span.to ∷ []

-- the first ends have no such number, and this range has one
pub missing_here : (count : ℕ) (set : List Span) (i : ℕ) (d : Span) (o : Option ℕ) → i < length set
    → find (is_missing count) (ends count (take i set)) ≡ None
    → o ≡ find (is_missing count) (ends_of count (get_or set i d)) → is_some o ≡ true
    → (view : View) → length view.rows ≡ count → o ≡ missing_end set view
missing_here count set i d None less none here some view same = absurd (false≢true some)
missing_here count set i d (Some n) less none here some view same =
    let more = found_more (is_missing count) (ends_of count) set i d less ∙ ap (λ o. option_or o (find (is_missing count) (ends_of count (get_or set i d)))) none ∙ sym here in
    sym (ap (λ k. find (is_missing k) (ends k set)) same ∙ found_early (is_missing count) (ends_of count) set (i + 1) n more)

-- nor has this one
pub missing_none : (count : ℕ) (set : List Span) (i : ℕ) (d : Span) (o : Option ℕ) → i < length set
    → find (is_missing count) (ends count (take i set)) ≡ None
    → o ≡ find (is_missing count) (ends_of count (get_or set i d)) → is_some o ≡ false
    → find (is_missing count) (ends count (take (i + 1) set)) ≡ None
missing_none count set i d (Some n) less none here some = absurd (true≢false some)
missing_none count set i d None less none here some =
    found_more (is_missing count) (ends_of count) set i d less ∙ ap (λ o. option_or o (find (is_missing count) (ends_of count (get_or set i d)))) none ∙ sym here

-- ---- rows

-- the numbers of the rows that pass
abbrev pub chosen : (ℕ × Shown → Bool) → List Shown → List ℕ
chosen p rows = map (λ row. row.0) (filter p (enumerate_from 1 rows))

enumerate_append : (n : ℕ) (xs ys : List Shown)
    → enumerate_from n (xs ++ ys) ≡ enumerate_from n xs ++ enumerate_from (n + length xs) ys
enumerate_append n [] ys = ap (λ k. enumerate_from k ys) (omega arith)
enumerate_append n (x ∷ xs) ys =
    let same : n + 1 + length xs ≡ n + suc (length xs) = omega arith in
    ap (λ t. (n, x) ∷ t) (enumerate_append (n + 1) xs ys ∙ ap (λ k. enumerate_from (n + 1) xs ++ enumerate_from k ys) same)

one : (b : Bool) (n : ℕ) (row : Shown)
    → map (λ (r : ℕ × Shown). r.0) (cond b ((n, row) ∷ []) []) ≡ cond b (n ∷ []) []
one true n row = refl
one false n row = refl

-- one more row
pub chosen_more : (p : ℕ × Shown → Bool) (rows : List Shown) (i : ℕ) (row : Shown) → i < length rows
    → chosen p (take (i + 1) rows) ≡ chosen p (take i rows) ++ cond (p (i + 1, get_or rows i row)) ((i + 1) ∷ []) []
chosen_more p rows i row less =
    let next = get_or rows i row in
    let before = take i rows in
    let at : 1 + length before ≡ i + 1 = omega (arith, length-take i rows) in
    ap (chosen p) (take_more rows i row less) ∙ ap (λ t. map (λ (r : ℕ × Shown). r.0) (filter p t)) (enumerate_append 1 before (next ∷ []) ∙ ap (λ k. enumerate_from 1 before ++ (k, next) ∷ []) at) ∙ ap (map (λ (r : ℕ × Shown). r.0)) (filter-append p (enumerate_from 1 before) ((i + 1, next) ∷ [])) ∙ map-append (λ (r : ℕ × Shown). r.0) (filter p (enumerate_from 1 before)) (cond (p (i + 1, next)) ((i + 1, next) ∷ []) []) ∙ ap (λ t. chosen p before ++ t) (one (p (i + 1, next)) (i + 1) next)

-- a row that passes
pub chosen_in : (p : ℕ × Shown → Bool) (rows : List Shown) (i : ℕ) (row : Shown) → i < length rows
    → p (i + 1, get_or rows i row) ≡ true
    → chosen p (take (i + 1) rows) ≡ chosen p (take i rows) ++ (i + 1) ∷ []
chosen_in p rows i row less passes = chosen_more p rows i row less ∙ ap (λ b. chosen p (take i rows) ++ cond b ((i + 1) ∷ []) []) passes

-- a row that doesn't
pub chosen_out : (p : ℕ × Shown → Bool) (rows : List Shown) (i : ℕ) (row : Shown) → i < length rows
    → p (i + 1, get_or rows i row) ≡ false → chosen p (take (i + 1) rows) ≡ chosen p (take i rows)
chosen_out p rows i row less fails = chosen_more p rows i row less ∙ ap (λ b. chosen p (take i rows) ++ cond b ((i + 1) ∷ []) []) fails ∙ append-nil (chosen p (take i rows))

abbrev blank : Shown
blank = record { uid = 0; flags = 0; keywords = []; modseq = 0 }

-- the same where the number alone decides
pub numbered_in : (q : ℕ → Bool) (rows : List Shown) (i : ℕ) → i < length rows → q (i + 1) ≡ true
    → chosen (λ row. q row.0) (take (i + 1) rows) ≡ chosen (λ row. q row.0) (take i rows) ++ (i + 1) ∷ []
numbered_in q rows i less passes = chosen_in (λ row. q row.0) rows i blank less passes

pub numbered_out : (q : ℕ → Bool) (rows : List Shown) (i : ℕ) → i < length rows → q (i + 1) ≡ false
    → chosen (λ row. q row.0) (take (i + 1) rows) ≡ chosen (λ row. q row.0) (take i rows)
numbered_out q rows i less fails = chosen_out (λ row. q row.0) rows i blank less fails
