-- Rows whose parts are taken away.
use Rattle.std.proofs.Common.{◌≡◌, ℕ, List, [], ◌∷◌, ◌++◌, take, drop, Result, Ok, Err, refl, sym, ◌∙◌, ap}
use Rattle.std.specs.Prelude.{All, OnErr, map}
use Rattle.std.specs.List.{AllByRecursion}
use Rattle.std.proofs.lemmas.List.{map-append, take-append-drop}
use Rattle.std.proofs.lemmas.List.Elements.{recursion_from_All}
use Rattle.dv_model.specs.declared.types.Row.{Row}
use Rattle.dv_model.specs.Effects.{with_row_parts}

abbrev pub bare : Row → Row
bare = with_row_parts (λ parts. [])

module _ (change : List (List ℕ) → List (List ℕ)) where
  of_changed : (rows : List Row) → map bare (map (with_row_parts change) rows) ≡ map bare rows
  of_changed [] = refl
  of_changed (row ∷ rows) = ap (λ (rest : List Row). bare row ∷ rest) (of_changed rows)

  -- as of rows of which the first ones had others
  pub of_some_changed : (rows : List Row) (i : ℕ) → map bare (map (with_row_parts change) (take i rows) ++ drop i rows) ≡ map bare rows
  of_some_changed rows i =
      map-append bare (map (with_row_parts change) (take i rows)) (drop i rows)
      ∙ ap (λ (front : List Row). front ++ map bare (drop i rows)) (of_changed (take i rows))
      ∙ sym (map-append bare (take i rows) (drop i rows))
      ∙ ap (map bare) (take-append-drop i rows)

each_bare : (rows : List Row) → AllByRecursion (λ (row : Row). row.parts ≡ []) rows → map bare rows ≡ rows
each_bare [] all = refl
each_bare (row ∷ rows) all =
    ap (λ (parts : List (List ℕ)). record row { parts = parts } ∷ map bare rows) (sym all.0) ∙ ap (λ (rest : List Row). row ∷ rest) (each_bare rows all.1)

-- rows without parts stay
pub all_bare : (rows : List Row) → All (λ (row : Row). row.parts ≡ []) rows → map bare rows ≡ rows
all_bare rows all = each_bare rows (recursion_from_All (λ (row : Row). row.parts ≡ []) rows all)

-- what holds anyhow holds of an error
pub on_err : {A E P : Type 0} (result : Result A E) → P → OnErr result P
on_err (Ok a) holds = tt
on_err (Err e) holds = holds
