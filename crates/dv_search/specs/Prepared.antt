-- Search keys whose sets of UIDs were made ready, so that many messages are tried on them.
use Rattle.std.specs.Prelude.{◌≡◌, ℕ, List, [], ◌∷◌, ◌++◌, All, flat_map}
use Rattle.dv_model.specs.declared.types.Key.{Key}
use Rattle.dv_model.specs.declared.types.Key.TheOpen.{Key-F}
use Rattle.dv_model.specs.declared.types.Key.TheFolds.{fold-Key}
use Rattle.dv_model.specs.declared.types.Span.{Span}
use Rattle.dv_model.specs.Searches.{Candidate, meets, needs_mail}
use Rattle.dv_sets.specs.Joined.{AreApart}
use Rattle.dv_search.specs.Facts.{asks}

-- one key, with the sets of UIDs that stand in the keys inside it
abbrev pub sets_step : Key-F (List (List Span)) → List (List Span)
sets_step (Key-F.Uid set) = set ∷ []
sets_step (Key-F.Not sets) = sets
sets_step (Key-F.Or one other) = one ++ other
sets_step (Key-F.And sets) = flat_map (λ s. s) sets
sets_step key = []

-- the sets of UIDs that stand in the key
abbrev pub sets_of : Key → List (List Span)
sets_of = fold-Key (List (List Span)) sets_step

-- their ranges rise and are apart, so that a UID is found by halves
abbrev pub HasApart : Key → Type 0
HasApart key = All AreApart (sets_of key)

-- the same candidate, where another UID is the largest
abbrev pub with_largest : ℕ → Candidate → Candidate
with_largest n c = record c { largest_uid = n }

-- The key is met by the same messages where this is the largest UID, whatever `*` is then; it asks the same of them, and
-- its sets are ready.
pub record IsPrepared (star : ℕ) (key made : Key) : Type 0 where
  pub meets : (c : Candidate) (n : ℕ) → c.largest_uid ≡ star → meets made (with_largest n c) ≡ meets key c
  pub reads : needs_mail made ≡ needs_mail key
  pub asks : (name : List ℕ) → asks made name ≡ asks key name
  pub apart : HasApart made
