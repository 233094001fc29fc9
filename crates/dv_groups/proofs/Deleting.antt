-- The messages that an EXPUNGE removes, row by row.
use Rattle.std.proofs.Common.{◌≡◌, ℕ, ◌+◌, ◌<◌, ◌≤◌, Bool, true, false, cond, Some, List, [], ◌∷◌, ◌++◌, length, map, take, drop, refl, sym, ◌∙◌, ap, arith}
use Rattle.std.specs.Prelude.{filter, slice_get}
use Rattle.std.proofs.Math.Seq.{take-append_seam}
use Rattle.std.proofs.lemmas.List.{length-map, map-append, nil_from_length, take_more, take-append-drop, take_all}
use Rattle.std.proofs.lemmas.List.Elements.{filter-append}
use Rattle.std.proofs.lemmas.List.Sums.{length-filter}
use Rattle.dv_model.specs.declared.types.Row.{Row}
use Rattle.dv_model.specs.Sessions.{expunge_limit, is_deleted}
use Rattle.std.proofs.lemmas.Option.{get_or_from_slice_get}
use Rattle.dv_rows.specs.Kept.{flag_count}

-- no row has the flag
pub deleted_none : (rows : List Row) → flag_count 4 rows ≡ 0 → filter is_deleted rows ≡ []
deleted_none rows none = nil_from_length (filter is_deleted rows) (length-filter is_deleted rows ∙ none)

module _ (rows : List Row) (k : ℕ) (uids : List ℕ) (so_far : uids ≡ map (λ (row : Row). row.uid) (filter is_deleted (take k rows))) where
  found : length (filter is_deleted (take k rows)) ≡ length uids
  found = sym (length-map (filter is_deleted (take k rows)) (λ (row : Row). row.uid)) ∙ ap length (sym so_far)

  -- as many as go at once
  pub deleted_full : length uids ≡ 100000 → uids ≡ map (λ (row : Row). row.uid) (take expunge_limit (filter is_deleted rows))
  deleted_full full =
      let first : List Row = filter is_deleted (take k rows) in
      let others : List Row = filter is_deleted (drop k rows) in
      let many : length first ≡ expunge_limit = found ∙ full in
      let all : filter is_deleted rows ≡ first ++ others = ap (filter is_deleted) (sym (take-append-drop k rows)) ∙ filter-append is_deleted (take k rows) (drop k rows) in
      let kept : take expunge_limit (first ++ others) ≡ first = ap (λ n. take n (first ++ others)) (sym many) ∙ take-append_seam first others in
      so_far ∙ ap (map (λ (row : Row). row.uid)) (sym (ap (take expunge_limit) all ∙ kept))

  -- all rows were looked at
  pub deleted_all : length uids ≤ 100000 → length rows ≤ k → uids ≡ map (λ (row : Row). row.uid) (take expunge_limit (filter is_deleted rows))
  deleted_all few through =
      let all : filter is_deleted (take k rows) ≡ filter is_deleted rows = ap (filter is_deleted) (take_all k rows through) in
      let kept : take expunge_limit (filter is_deleted rows) ≡ filter is_deleted rows = take_all expunge_limit (filter is_deleted rows) (omega (arith, found, few, ap length all)) in
      so_far ∙ ap (map (λ (row : Row). row.uid)) (all ∙ sym kept)

-- one row more
pub deleted_more : (rows : List Row) (k : ℕ) (row : Row) (b : Bool) → k < length rows → slice_get rows k ≡ Some row → is_deleted row ≡ b
    → map (λ (row : Row). row.uid) (filter is_deleted (take (k + 1) rows)) ≡ map (λ (row : Row). row.uid) (filter is_deleted (take k rows)) ++ cond b (row.uid ∷ []) []
deleted_more rows k row b less is tested =
    let before : List Row = take k rows in
    let one : take (k + 1) rows ≡ before ++ row ∷ [] = take_more rows k row less ∙ ap (λ (r : Row). before ++ r ∷ []) (get_or_from_slice_get rows k row row is) in
    ap (λ rs. map (λ (row : Row). row.uid) (filter is_deleted rs)) one
    ∙ ap (map (λ (row : Row). row.uid)) (filter-append is_deleted before (row ∷ []) ∙ ap (λ t. filter is_deleted before ++ cond t (row ∷ []) []) tested)
    ∙ map-append (λ (row : Row). row.uid) (filter is_deleted before) (cond b (row ∷ []) []) ∙ ap (λ uids. map (λ (row : Row). row.uid) (filter is_deleted before) ++ uids) (by_test b)
  where
    by_test : (b : Bool) → map (λ (row : Row). row.uid) (cond b (row ∷ []) []) ≡ cond b (row.uid ∷ []) []
    by_test true = refl
    by_test false = refl
