-- The UIDs of rows but for such as are found among others, row after row.
use Rattle.std.proofs.Common.{◌≡◌, ◌⊎◌, inl, inr, ℕ, ◌<◌, ◌+◌, ◌++◌, ◌∷◌, [], List, get_or, length, map, take, ap, sym, ◌∙◌, subst}
use Rattle.std.specs.Prelude.{Contains}
use Rattle.std.proofs.lemmas.List.{map-append, take_more}
use Rattle.std.proofs.lemmas.List.Elements.{Contains-append_left, Contains-push, Contains-push_cases}
use Rattle.dv_model.specs.declared.types.Row.{Row}
use Rattle.dv_rows.specs.Parted.{HasUid}

-- these are UIDs of the first rows, and all of theirs but for such as are among others
abbrev pub AreOthers : List ℕ → List Row → List ℕ → Type 0
AreOthers uids rows others = record {
  of_rows : (uid : ℕ) → Contains others uid → HasUid rows uid;
  all : (uid : ℕ) → HasUid rows uid → Contains uids uid ⊎ Contains others uid;
}

module _ (uids : List ℕ) (rows : List Row) (k : ℕ) (row : Row) (others : List ℕ) (less : k < length rows) (here : row ≡ get_or rows k row) (are : AreOthers uids (take k rows) others) where
  one_more : map (λ (r : Row). r.uid) (take (k + 1) rows) ≡ map (λ (r : Row). r.uid) (take k rows) ++ row.uid ∷ []
  one_more =
      ap (map (λ (r : Row). r.uid)) (take_more rows k row less ∙ ap (λ r. take k rows ++ r ∷ []) (sym here))
      ∙ map-append (λ (r : Row). r.uid) (take k rows) (row ∷ [])

  before : (uid : ℕ) → HasUid (take k rows) uid → HasUid (take (k + 1) rows) uid
  before uid h = subst (λ us. Contains us uid) (sym one_more) (Contains-append_left (map (λ (r : Row). r.uid) (take k rows)) (row.uid ∷ []) uid h)

  last : HasUid (take (k + 1) rows) row.uid
  last = subst (λ us. Contains us row.uid) (sym one_more) (Contains-push (map (λ (r : Row). r.uid) (take k rows)) row.uid)

  cases : (uid : ℕ) → HasUid (take (k + 1) rows) uid → HasUid (take k rows) uid ⊎ (row.uid ≡ uid)
  cases uid h = Contains-push_cases (map (λ (r : Row). r.uid) (take k rows)) row.uid uid (subst (λ us. Contains us uid) one_more h)

  -- one is found
  pub others_found : Contains uids row.uid → AreOthers uids (take (k + 1) rows) others
  others_found found = record { of_rows = λ uid h. before uid (are.of_rows uid h); all = λ uid h. by_case uid (cases uid h) }
    where
      by_case : (uid : ℕ) → HasUid (take k rows) uid ⊎ (row.uid ≡ uid) → Contains uids uid ⊎ Contains others uid
      by_case uid (inl h) = are.all uid h
      by_case uid (inr same) = inl (subst (Contains uids) same found)

  -- one is added
  pub others_more : AreOthers uids (take (k + 1) rows) (others ++ row.uid ∷ [])
  others_more = record { of_rows = λ uid h. of_case uid (Contains-push_cases others row.uid uid h); all = λ uid h. by_case uid (cases uid h) }
    where
      of_case : (uid : ℕ) → Contains others uid ⊎ (row.uid ≡ uid) → HasUid (take (k + 1) rows) uid
      of_case uid (inl h) = before uid (are.of_rows uid h)
      of_case uid (inr same) = subst (HasUid (take (k + 1) rows)) same last

      kept : (uid : ℕ) → Contains uids uid ⊎ Contains others uid → Contains uids uid ⊎ Contains (others ++ row.uid ∷ []) uid
      kept uid (inl h) = inl h
      kept uid (inr h) = inr (Contains-append_left others (row.uid ∷ []) uid h)

      by_case : (uid : ℕ) → HasUid (take k rows) uid ⊎ (row.uid ≡ uid) → Contains uids uid ⊎ Contains (others ++ row.uid ∷ []) uid
      by_case uid (inl h) = kept uid (are.all uid h)
      by_case uid (inr same) = inr (subst (Contains (others ++ row.uid ∷ [])) same (Contains-push others row.uid))
