-- Rows that are chosen of a view stand at their message numbers.
use Rattle.std.proofs.Common.{◌≡◌, ℕ, ◌+◌, ◌-◌, ◌<◌, Bool, List, [], ◌∷◌, length, get_or, map, refl, sym, ◌∙◌, ap, subst, arith}
use Rattle.std.specs.Prelude.{All}
use Rattle.std.specs.List.{filter, enumerate_from, AllByRecursion}
use Rattle.std.proofs.lemmas.List.{get_or_default}
use Rattle.std.proofs.lemmas.List.Elements.{All-filter, All-map, All-weaker, recursion_from_All}
use Rattle.std.proofs.lemmas.List.FromFn.{get_or-enumerate_from, length-enumerate_from}
use Rattle.dv_model.specs.declared.types.Shown.{Shown}
use Rattle.dv_responses.specs.Rows.{IsNumber, no_row, row_at, rows_at}

-- the row stands at its number
record StandsIn (rows : List Shown) (row : ℕ × Shown) : Type 0 where
  number : IsNumber rows row.0
  is : row_at rows row.0 ≡ row.1

module _ (rows : List Shown) where
  abbrev numbered : List (ℕ × Shown)
  numbered = enumerate_from 1 rows

  all_stand : All (StandsIn rows) numbered
  all_stand = λ i d less.
      let long = length-enumerate_from 1 rows in
      let inside : i < length rows = omega (arith, long, less) in
      let at : 1 + i - 1 ≡ i = omega arith in
      subst (StandsIn rows) (sym (get_or-enumerate_from 1 rows i d inside)) (record {
        number = (omega arith, omega (arith, inside));
        is = ap (λ k. get_or rows k no_row) at ∙ get_or_default rows i no_row d.1 inside;
      })

  -- the UIDs of rows by their numbers
  pub uids_of_numbers : (numbers : List ℕ) → map (λ (row : ℕ × Shown). row.1.uid) (rows_at rows numbers) ≡ map (λ number. (row_at rows number).uid) numbers
  uids_of_numbers [] = refl
  uids_of_numbers (n ∷ ns) = ap (λ (uids : List ℕ). (row_at rows n).uid ∷ uids) (uids_of_numbers ns)

  as_they_stand : (xs : List (ℕ × Shown)) → AllByRecursion (StandsIn rows) xs → rows_at rows (map (λ row. row.0) xs) ≡ xs
  as_they_stand [] all = refl
  as_they_stand (x ∷ xs) all =
      let is : row_at rows x.0 ≡ x.1 = all.0.is in
      ap (λ (s : Shown). (x.0, s) ∷ rows_at rows (map (λ row. row.0) xs)) is ∙ ap (λ t. x ∷ t) (as_they_stand xs all.1)

  module _ (p : ℕ × Shown → Bool) where
    chosen_stand_each : All (StandsIn rows) (filter p numbered)
    chosen_stand_each = All-filter p (StandsIn rows) numbered all_stand

    -- they are the rows at their numbers
    pub chosen_stand : rows_at rows (map (λ row. row.0) (filter p (enumerate_from 1 rows))) ≡ filter p (enumerate_from 1 rows)
    chosen_stand = as_they_stand (filter p numbered) (recursion_from_All (StandsIn rows) (filter p numbered) chosen_stand_each)

    -- and these are numbers of rows
    pub chosen_inside : All (IsNumber rows) (map (λ row. row.0) (filter p (enumerate_from 1 rows)))
    chosen_inside = All-map (IsNumber rows) (λ row. row.0) (filter p numbered) (All-weaker (StandsIn rows) (λ row. IsNumber rows row.0) (λ row stands. stands.number) (filter p numbered) chosen_stand_each)
