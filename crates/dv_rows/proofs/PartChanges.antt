-- The part at a place of a row, and the row with a UID.
use Rattle.std.proofs.Common.{◌≡◌, ◌≢◌, ℕ, zero, suc, ◌+◌, ◌-◌, ◌<◌, ◌≤◌, Bool, true, false, cond, eqb, ltb, List, [], ◌∷◌, ◌++◌, length, get_or, take, drop, refl, ap, subst, sym, ◌∙◌, arith, length-drop, Result, Ok, Err, OnOk}
use Rattle.std.proofs.Math.ListN.{set}
use Rattle.std.specs.Prelude.{All, map, nat_eq, position, Some, None, if◌then◌else◌}
use Rattle.std.specs.List.{position_or_len}
use Rattle.std.proofs.lemmas.Bool.{cond-false, cond-true, eq-eqb, eqb-false, eqb-true, ltb-false, ne_eqb}
use Rattle.std.proofs.lemmas.List.{drop_more, get_or-drop, get_or-take, length-take-le, map-append, set_split, take-append-drop}
use Rattle.std.proofs.lemmas.List.Folds.{map_fixed}
use Rattle.std.proofs.lemmas.List.Quantifiers.{position-Some}
use Rattle.std.proofs.lemmas.List.Sums.{fails_before_first}
use Rattle.dv_model.specs.declared.types.Row.{Row}
use Rattle.dv_model.specs.Effects.{with_item, with_row_parts}
use Rattle.dv_rows.proofs.Rising.{apart}
use Rattle.dv_rows.specs.Kept.{AreRows}

with_item_set : {X : Type 0} (change : X → X) (xs : List X) (k : ℕ) (d : X) → k < length xs → with_item k change xs ≡ set xs k (change (get_or xs k d))
with_item_set change [] k d h = absurd (omega (arith, h))
with_item_set change (x ∷ xs) zero d h = refl
with_item_set change (x ∷ xs) (suc k) d h = ap (λ ys. x ∷ ys) (with_item_set change xs k d (omega (arith, h)))

-- an item that is changed in its place
pub item_set : {X : Type 0} (change : X → X) (xs : List X) (k : ℕ) (d y : X) → k < length xs → y ≡ change (get_or xs k d) → set xs k y ≡ with_item k change xs
item_set change xs k d y h is = ap (set xs k) is ∙ sym (with_item_set change xs k d h)

-- behind the last item there is none
pub no_item : {X : Type 0} (change : X → X) (xs : List X) (k : ℕ) → length xs ≤ k → xs ≡ with_item k change xs
no_item change [] k h = refl
no_item change (x ∷ xs) zero h = absurd (omega (arith, h))
no_item change (x ∷ xs) (suc k) h = ap (λ ys. x ∷ ys) (no_item change xs k (omega (arith, h)))

pub ok_then : {T E : Type 0} (r : Result T E) (P Q : Type 0) → OnOk r P → (P → Q) → OnOk r Q
ok_then (Ok x) P Q p f = f p
ok_then (Err e) P Q p f = tt

-- ---- the row with a UID

-- the row with this UID is changed
abbrev pub at_uid : ℕ → (Row → Row) → Row → Row
at_uid uid change row = if nat_eq uid row.uid then change row else row

uid_by : (b : Bool) (change : List (List ℕ) → List (List ℕ)) (row : Row) → (cond b (with_row_parts change row) row).uid ≡ row.uid
uid_by true change row = refl
uid_by false change row = refl

flags_by : (b : Bool) (change : List (List ℕ) → List (List ℕ)) (row : Row) → (cond b (with_row_parts change row) row).flags ≡ row.flags
flags_by true change row = refl
flags_by false change row = refl

pub same_uid : (uid : ℕ) (change : List (List ℕ) → List (List ℕ)) (row : Row) → (at_uid uid (with_row_parts change) row).uid ≡ row.uid
same_uid uid change row = uid_by (eqb uid row.uid) change row

pub same_flags : (uid : ℕ) (change : List (List ℕ) → List (List ℕ)) (row : Row) → (at_uid uid (with_row_parts change) row).flags ≡ row.flags
same_flags uid change row = flags_by (eqb uid row.uid) change row

stays : (uid : ℕ) (change : Row → Row) (row : Row) → row.uid ≢ uid → at_uid uid change row ≡ row
stays uid change row other = cond-false (eqb uid row.uid) (change row) row (ne_eqb uid row.uid (λ e. other (sym e)))

changes : (uid : ℕ) (change : Row → Row) (row : Row) → row.uid ≡ uid → at_uid uid change row ≡ change row
changes uid change row same = cond-true (eqb uid row.uid) (change row) row (eq-eqb uid row.uid (sym same))

put_by : (row other : Row) (b : Bool) → eqb row.uid other.uid ≡ b → (cond b row other).uid ≡ other.uid
put_by row other true e = eqb-true row.uid other.uid e
put_by row other false e = refl

-- a row in the place of the one with its UID
pub put_uid : (row other : Row) → (at_uid row.uid (λ other. row) other).uid ≡ other.uid
put_uid row other = put_by row other (eqb row.uid other.uid) refl

none_by : (b : Bool) (n : ℕ) → cond b (Some n) None ≡ None → b ≡ false
none_by true n e = absurd cc
none_by false n e = refl

pub none_there : (uid : ℕ) (rows : List Row) → position (λ (row : Row). nat_eq row.uid uid) rows ≡ None → All (λ row. nat_eq row.uid uid ≡ false) rows
none_there uid rows none =
    let p : Row → Bool = λ row. eqb row.uid uid in
    let end : length rows ≤ position_or_len p rows = ltb-false (position_or_len p rows) (length rows) (none_by (ltb (position_or_len p rows) (length rows)) (position_or_len p rows) none) in
    λ k d h. fails_before_first p rows k d (omega arith)

-- where no row has it, all stay
pub none_changes : (uid : ℕ) (change : Row → Row) (rows : List Row) → position (λ (row : Row). nat_eq row.uid uid) rows ≡ None → rows ≡ map (at_uid uid change) rows
none_changes uid change rows none =
    sym (map_fixed (at_uid uid change) rows (λ k d h. stays uid change (get_or rows k d) (eqb-false (get_or rows k d).uid uid (none_there uid rows none k d h))))

pub found_uid : (uid at : ℕ) (rows : List Row) → position (λ (row : Row). nat_eq row.uid uid) rows ≡ Some at → (d : Row) → (get_or rows at d).uid ≡ uid
found_uid uid at rows found d = let is = position-Some (λ (row : Row). nat_eq row.uid uid) rows at d found in eqb-true (get_or rows at d).uid uid is.1

before_it : (uid at : ℕ) (change : Row → Row) (rows : List Row) → AreRows rows → at < length rows → ((d : Row) → (get_or rows at d).uid ≡ uid) → All (λ row. at_uid uid change row ≡ row) (take at rows)
before_it uid at change rows are inside it k d h =
    let many : length (take at rows) ≡ at = length-take-le at rows (omega arith) in
    let here : get_or (take at rows) k d ≡ get_or rows k d = get_or-take at rows k d (omega arith) in
    let less : (get_or rows k d).uid < (get_or rows at d).uid = apart rows are k at d (omega arith) inside in
    let same : (get_or rows at d).uid ≡ uid = it d in
    subst (λ row. at_uid uid change row ≡ row) (sym here) (stays uid change (get_or rows k d) (λ e. omega arith))

behind_it : (uid at : ℕ) (change : Row → Row) (rows : List Row) → AreRows rows → at < length rows → ((d : Row) → (get_or rows at d).uid ≡ uid) → All (λ row. at_uid uid change row ≡ row) (drop (at + 1) rows)
behind_it uid at change rows are inside it k d h =
    let many : length (drop (at + 1) rows) ≡ length rows - (at + 1) = length-drop (at + 1) rows in
    let here : get_or (drop (at + 1) rows) k d ≡ get_or rows (at + 1 + k) d = get_or-drop (at + 1) rows k d in
    let more : (get_or rows at d).uid < (get_or rows (at + 1 + k) d).uid = apart rows are at (at + 1 + k) d (omega arith) (omega arith) in
    let same : (get_or rows at d).uid ≡ uid = it d in
    subst (λ row. at_uid uid change row ≡ row) (sym here) (stays uid change (get_or rows (at + 1 + k) d) (λ e. omega arith))

-- else that one alone is changed
pub one_changes : (uid at : ℕ) (change : Row → Row) (rows : List Row) (d new : Row) → AreRows rows → at < length rows → position (λ (row : Row). nat_eq row.uid uid) rows ≡ Some at → new ≡ change (get_or rows at d) → set rows at new ≡ map (at_uid uid change) rows
one_changes uid at change rows d new are inside found is =
    let f : Row → Row = at_uid uid change in
    let it : (e : Row) → (get_or rows at e).uid ≡ uid = found_uid uid at rows found in
    let next : suc at ≡ at + 1 = omega arith in
    let all : rows ≡ take at rows ++ get_or rows at d ∷ drop (at + 1) rows = sym (take-append-drop at rows) ∙ ap (λ l. take at rows ++ l) (drop_more rows at d inside) in
    let front : map f (take at rows) ≡ take at rows = map_fixed f (take at rows) (before_it uid at change rows are inside it) in
    let behind : map f (drop (at + 1) rows) ≡ drop (at + 1) rows = map_fixed f (drop (at + 1) rows) (behind_it uid at change rows are inside it) in
    set_split rows at new inside ∙ ap (λ k. take at rows ++ new ∷ drop k rows) next
    ∙ ap (λ r. take at rows ++ r ∷ drop (at + 1) rows) (is ∙ sym (changes uid change (get_or rows at d) (it d)))
    ∙ ap (λ l. take at rows ++ f (get_or rows at d) ∷ l) (sym behind) ∙ ap (λ l. l ++ f (get_or rows at d) ∷ map f (drop (at + 1) rows)) (sym front)
    ∙ sym (ap (map f) all ∙ map-append f (take at rows) (get_or rows at d ∷ drop (at + 1) rows))
