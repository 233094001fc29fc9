-- The result of a search that is kept, and the rows with which it agrees.
use Rattle.std.specs.Prelude.{◌≡◌, ℕ, ◌<◌, max, All, List, ◌++◌, filter, fold, length, map, IfSome}
use Rattle.std.specs.List.Sorted.{IsStrictlyIncreasing}
use Rattle.dv_model.specs.declared.types.Fresh.{Fresh}
use Rattle.dv_model.specs.declared.types.Key.{Key}
use Rattle.dv_model.specs.declared.types.Shown.{Shown}
use Rattle.dv_model.specs.Searches.{meets}
use Rattle.dv_search.specs.Stars.{row_in}
use Rattle.dv_view.specs.Following.{AreGiven}

-- a key, the UIDs of what it finds, and the keyword table of the mailbox
pub record KeptSearch : Type 0 where
  pub key : Key
  pub uids : List ℕ
  pub names : List (List ℕ)

-- the largest UID of rows, which `*` stands for
abbrev pub largest_of : List Shown → ℕ
largest_of rows = fold (λ n s. max n s.uid) 0 rows

-- the UIDs of the rows that meet the key, as a UID SEARCH over these rows gives them (RFC 3501, section 6.4.8); the places
-- of keywords are read in this table
abbrev pub found_uids : Key → List (List ℕ) → List Shown → List ℕ
found_uids key names rows = map (λ s. s.uid) (filter (λ s. meets key (row_in names (largest_of rows) s)) rows)

-- the keywords of a row have places in a table of so many names
abbrev pub IsPlaced : ℕ → Shown → Type 0
IsPlaced count s = All (λ k. k < count) s.keywords

-- the rows stand by rising UID, their keywords are in the kept table, and those found are the ones that meet the key
pub record Agrees (kept : KeptSearch) (rows : List Shown) : Type 0 where
  pub rising : IsStrictlyIncreasing (map (λ s. s.uid) rows)
  pub placed : All (IsPlaced (length kept.names)) rows
  pub uids : kept.uids ≡ found_uids kept.key kept.names rows

-- Rows that a kept search can follow, with this table: UIDs rise, each row is of the UID beside it, its keywords are in the
-- table, and that begins with the kept one.
pub record MayFollow (kept : KeptSearch) (fresh : List Fresh) (names : List (List ℕ)) : Type 0 where
  pub given : AreGiven fresh
  pub placed : All (λ f. IfSome f.row (IsPlaced (length names))) fresh
  pub more : List (List ℕ)
  pub begins : names ≡ kept.names ++ more
