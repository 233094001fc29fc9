-- The UIDs of rows in ranges.
use Rattle.std.proofs.Common.{◌≡◌, ◌⊎◌, inl, inr, ℕ, ◌+◌, ◌<◌, ◌≤◌, Bool, true, false, List, [], ◌∷◌, ◌++◌, length, get_or, refl, sym, ◌∙◌, ap, subst, arith}
use Rattle.std.specs.Prelude.{◌||◌, Contains, map}
use Rattle.std.proofs.lemmas.Bool.{cases_lt, false≢true}
use Rattle.std.proofs.lemmas.List.{get_or-map, get_or_default, length-map}
use Rattle.std.proofs.lemmas.List.Elements.{Contains-append_left, Contains-push, Contains-push_cases}
use Rattle.dv_model.specs.declared.types.Row.{Row}
use Rattle.dv_rows.specs.Kept.{AreRows}
use Rattle.dv_rows.specs.Noted.{has}
use Rattle.dv_rows.specs.Parted.{HasUid}
use Rattle.dv_rows.proofs.Rising.{no_fall}
use Rattle.dv_rows.specs.Places.{IsPlace}
use Rattle.dv_rows.proofs.Walking.{below, too_high}

pub no_row : Row
no_row = record { uid = 0; flags = 0; keywords = []; parts = []; modseq = 0 }

-- a row's place has its UID
pub has_at : (rows : List Row) (k : ℕ) (d : Row) → k < length rows → HasUid rows (get_or rows k d).uid
has_at rows k d h =
    let long : length (map (λ (row : Row). row.uid) rows) ≡ length rows = length-map rows (λ (row : Row). row.uid) in
    (k, omega arith, get_or-map (λ (row : Row). row.uid) rows k d (get_or rows k d).uid h)

-- a UID of a row has a place
pub at_uid : (rows : List Row) (uid : ℕ) → HasUid rows uid → (k : ℕ) × (k < length rows) × ((d : Row) → (get_or rows k d).uid ≡ uid)
at_uid rows uid (k, h, at) =
    let long : length (map (λ (row : Row). row.uid) rows) ≡ length rows = length-map rows (λ (row : Row). row.uid) in
    let inside : k < length rows = omega (arith, h) in
    (k, inside, λ d. sym (get_or-map (λ (row : Row). row.uid) rows k d uid inside) ∙ at)

-- the UIDs of the rows before a place that a range has are there, and only such were added
pub record NamesTo {X : Type 0} (first last : X → ℕ) (range : X) (rows : List Row) (from at : ℕ) (old new : List ℕ) : Type 0 where
  pub order : from ≤ at
  pub kept : (uid : ℕ) → Contains old uid → Contains new uid
  pub only : (uid : ℕ) → Contains new uid → Contains old uid ⊎ (HasUid rows uid × (has first last uid range ≡ true))
  pub done : (k : ℕ) (d : Row) → from ≤ k → k < at → k < length rows → Contains new (get_or rows k d).uid

pub either : (A B C : Type 0) → A ⊎ B → (A → C) → (B → C) → C
either A B C (inl a) f g = f a
either A B C (inr b) f g = g b

pub or_cases : (a b : Bool) → (a || b) ≡ true → (a ≡ true) ⊎ (b ≡ true)
or_cases true b e = inl refl
or_cases false b e = inr e

pub names_more : {X : Type 0} (first last : X → ℕ) (range : X) (rows : List Row) (from at : ℕ) (old new : List ℕ) (row : Row)
    → NamesTo first last range rows from at old new → at < length rows → row ≡ get_or rows at row → has first last row.uid range ≡ true
    → NamesTo first last range rows from (at + 1) old (new ++ row.uid ∷ [])
names_more first last range rows from at old new row so_far less is named = record {
  order = omega (arith, so_far.order);
  kept = λ uid p. Contains-append_left new (row.uid ∷ []) uid (so_far.kept uid p);
  only = λ uid p. either _ _ _ (Contains-push_cases new row.uid uid p) (so_far.only uid)
      (λ same. inr (subst (λ u. HasUid rows u × (has first last u range ≡ true)) same (subst (λ (r : Row). HasUid rows r.uid) (sym is) (has_at rows at row less), named)));
  done = λ k d low upto h. either _ _ _ (cases_lt k at)
      (λ before. Contains-append_left new (row.uid ∷ []) (get_or rows k d).uid (so_far.done k d low before h))
      (λ here. let last_one : at ≡ k = omega arith in
      subst (λ u. Contains (new ++ row.uid ∷ []) u) (ap (λ (r : Row). r.uid) (is ∙ get_or_default rows at row d less ∙ ap (λ j. get_or rows j d) last_one)) (Contains-push new row.uid));
}

pub names_all : {X : Type 0} (first last : X → ℕ) (range : X) (rows : List Row) (from at : ℕ) (old new : List ℕ) → AreRows rows → IsPlace rows (first range) from
    → NamesTo first last range rows from at old new → (at < length rows → (d : Row) → last range < (get_or rows at d).uid)
    → (uid : ℕ) → HasUid rows uid → has first last uid range ≡ true → Contains new uid
names_all first last range rows from at old new are place so_far past uid there named =
    let (k, h, same) = at_uid rows uid there in
    let here : (get_or rows k no_row).uid ≡ uid = same no_row in
    either _ _ _ (cases_lt k from)
    (λ low. absurd (false≢true (sym (subst (λ u. has first last u range ≡ false) here (below first last rows range from place k no_row low h)) ∙ named)))
    (λ high. either _ _ _ (cases_lt k at)
    (λ before. subst (Contains new) here (so_far.done k no_row high before h))
    (λ behind.
    let beyond : last range < (get_or rows at no_row).uid = past (omega arith) no_row in
    let up : (get_or rows at no_row).uid ≤ (get_or rows k no_row).uid = no_fall rows are at k no_row behind h in
    absurd (false≢true (sym (too_high (first range) (last range) uid (omega arith)) ∙ named))))
