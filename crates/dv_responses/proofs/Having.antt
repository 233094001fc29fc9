-- Whether a mailbox has a row of a UID that passes a test, by the place of the UID.
use Rattle.std.proofs.Common.{◌≡◌, ◌⊎◌, inl, inr, ℕ, ◌<◌, ◌≤◌, Bool, true, false, ◌&&◌, List, [], length, get_or, map, Option, Some, None, refl, sym, ◌∙◌, ap, arith}
use Rattle.std.specs.Prelude.{position, nat_eq, slice_get, is_some}
use Rattle.std.specs.List.{list_any}
use Rattle.std.specs.List.Sorted.{IsStrictlyIncreasing}
use Rattle.std.proofs.lemmas.Bool.{cases_lt, eqb-true, ne_eqb}
use Rattle.std.proofs.lemmas.List.{get_or-map, length-map}
use Rattle.std.proofs.lemmas.List.Folds.{list_any_at, list_any_none}
use Rattle.std.proofs.lemmas.List.Kept.{AllPairs-from_increasing}
use Rattle.std.proofs.lemmas.List.Quantifiers.{position-Some}
use Rattle.std.proofs.lemmas.Option.{get_or_from_slice_get}
use Rattle.dv_model.specs.declared.types.Row.{Row}
use Rattle.dv_rows.proofs.PartChanges.{none_there}

blank : Row
blank = record { uid = 0; flags = 0; keywords = []; parts = []; modseq = 0 }

module _ (rows : List Row) (uid : ℕ) where
  abbrev is_it : Row → Bool
  is_it row = nat_eq row.uid uid

  -- no row has the UID
  pub none_passes : (test : Row → Bool) → position (λ (row : Row). nat_eq row.uid uid) rows ≡ None → list_any (λ row. nat_eq row.uid uid && test row) rows ≡ false
  none_passes test none = list_any_none (λ row. nat_eq row.uid uid && test row) rows (λ i d less. ap (λ b. b && test (get_or rows i d)) (none_there uid rows none i d less))

  -- whether there is one at all
  pub has_place : (o : Option ℕ) → o ≡ position (λ (row : Row). nat_eq row.uid uid) rows → is_some o ≡ list_any (λ row. nat_eq row.uid uid && true) rows
  has_place None none = sym (none_passes (λ row. true) (sym none))
  has_place (Some at) found =
      let some = position-Some is_it rows at blank (sym found) in
      sym (list_any_at (λ row. nat_eq row.uid uid && true) rows at blank some.0 (ap (λ b. b && true) some.1))

  -- the row of the UID decides
  pub one_passes : (test : Row → Bool) → IsStrictlyIncreasing (map (λ row. row.uid) rows) → (at : ℕ) (row : Row)
      → position (λ (row : Row). nat_eq row.uid uid) rows ≡ Some at → slice_get rows at ≡ Some row → list_any (λ row. nat_eq row.uid uid && test row) rows ≡ test row
  one_passes test rising at row found is = by_test (test row) refl
    where
      there : (at < length rows) × (nat_eq (get_or rows at row).uid uid ≡ true)
      there = let some = position-Some is_it rows at row found in (some.0, some.1)

      it : get_or rows at row ≡ row
      it = get_or_from_slice_get rows at row row is

      has : nat_eq row.uid uid ≡ true
      has = ap (λ (r : Row). nat_eq r.uid uid) (sym it) ∙ there.1

      apart : (i j : ℕ) (d : Row) → i < j → j < length rows → (get_or rows i d).uid < (get_or rows j d).uid
      apart i j d less inside =
          let long : length (map (λ (r : Row). r.uid) rows) ≡ length rows = length-map rows (λ (r : Row). r.uid) in
          let first : get_or (map (λ (r : Row). r.uid) rows) i 0 ≡ (get_or rows i d).uid = get_or-map (λ (r : Row). r.uid) rows i d 0 (omega arith) in
          let second : get_or (map (λ (r : Row). r.uid) rows) j 0 ≡ (get_or rows j d).uid = get_or-map (λ (r : Row). r.uid) rows j d 0 inside in
          let up : get_or (map (λ (r : Row). r.uid) rows) i 0 < get_or (map (λ (r : Row). r.uid) rows) j 0 = AllPairs-from_increasing (map (λ (r : Row). r.uid) rows) rising i j 0 less (omega arith) in
          omega arith

      other : (i : ℕ) (d : Row) → (get_or rows at d).uid ≡ uid → i < length rows → test (get_or rows at d) ≡ false → (i < at) ⊎ (at ≤ i) → (at < i) ⊎ (i ≤ at) → (nat_eq (get_or rows i d).uid uid && test (get_or rows i d)) ≡ false
      other i d same less fails (inl before) order =
          let up = apart i at d before there.0 in
          ap (λ b. b && test (get_or rows i d)) (ne_eqb (get_or rows i d).uid uid (λ e. omega arith))
      other i d same less fails (inr from) (inl behind) =
          let up = apart at i d behind less in
          ap (λ b. b && test (get_or rows i d)) (ne_eqb (get_or rows i d).uid uid (λ e. omega arith))
      other i d same less fails (inr from) (inr upto) =
          let here : at ≡ i = omega arith in
          ap (λ b. b && test (get_or rows i d)) (ap (λ n. nat_eq n uid) (ap (λ k. (get_or rows k d).uid) (sym here) ∙ same) ∙ self) ∙ ap (λ k. test (get_or rows k d)) (sym here) ∙ fails
        where
          self : nat_eq uid uid ≡ true
          self = search arith

      by_test : (b : Bool) → test row ≡ b → list_any (λ row. nat_eq row.uid uid && test row) rows ≡ b
      by_test true passes = list_any_at (λ row. nat_eq row.uid uid && test row) rows at row there.0 (ap (λ (r : Row). nat_eq r.uid uid && test r) it ∙ ap (λ b. b && test row) has ∙ passes)
      by_test false fails = list_any_none (λ row. nat_eq row.uid uid && test row) rows (λ i d less.
          let here : get_or rows at d ≡ row = get_or_from_slice_get rows at row d is in
          other i d (ap (λ (r : Row). r.uid) here ∙ eqb-true row.uid uid has) less (ap test here ∙ fails) (cases_lt i at) (cases_lt at i))
