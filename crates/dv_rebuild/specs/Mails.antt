-- The message files of a folder.
use Rattle.std.specs.Prelude.{◌≡◌, ◌↔◌, ℕ, ◌+◌, Bool, true, false, List, [], ◌∷◌, ◌++◌, length, take, Contains, flat_map, Option, Some, None, nat_lt, if◌then◌else◌}
use Rattle.std.specs.List.Sorted.{IsStrictlyIncreasing}
use Rattle.dv_shelf.specs.declared.shelf.Name.{Name}
use Rattle.dv_shelf.specs.declared.shelf.Name.TheVariants as name
use Rattle.dv_shelf.specs.Folders.{Folder}
use Rattle.dv_openings.specs.Rebuilds.{kept_of, skipped_of}
use Rattle.dv_rebuild.specs.declared.mails.Sifted.{Sifted}
use Rattle.dv_rebuild.specs.declared.reporting.Skip.{Skip}
use Rattle.dv_rebuild.specs.declared.reporting.SkipCause.{SkipCause}
use Rattle.dv_rebuild.specs.Reports.{skips_of}

-- the number of a message file
abbrev pub number_in : Name → List ℕ
number_in (name.Mail n) = n ∷ []
number_in other = []

-- those of a listing, in the order of their names
abbrev pub numbers_in : List Name → List ℕ
numbers_in names = flat_map number_in names

-- the same numbers, rising, each once
pub record AreNumbersOf (names : List Name) (numbers : List ℕ) : Type 0 where
  pub rise : IsStrictlyIncreasing numbers
  pub each : (n : ℕ) → Contains names (name.Mail n) ↔ Contains numbers n

-- which of these message files are kept, how many aren't, and the first of those
pub record IsSifted (folder : Folder) (numbers : List ℕ) (sifted : Sifted) : Type 0 where
  pub kept : sifted.kept ≡ kept_of folder numbers
  pub skipped : sifted.skipped ≡ skipped_of folder numbers
  pub skips : sifted.skips ≡ take 100 (skips_of folder numbers)

-- one more is skipped; it is told where fewer than a hundred are
pub record AddsSkip (skip : Skip) (old new : Sifted) : Type 0 where
  pub kept : new.kept ≡ old.kept
  pub skipped : new.skipped ≡ old.skipped + 1
  pub skips : new.skips ≡ (if nat_lt (length old.skips) 100 then old.skips ++ skip ∷ [] else old.skips)

-- one more is kept
pub record AddsKept (n : ℕ) (old new : Sifted) : Type 0 where
  pub kept : new.kept ≡ old.kept ++ n ∷ []
  pub skipped : new.skipped ≡ old.skipped
  pub skips : new.skips ≡ old.skips

-- one more is kept, or skipped for a cause
abbrev pub Adds : ℕ → Option SkipCause → Sifted → Sifted → Type 0
Adds n None old new = AddsKept n old new
Adds n (Some why) old new = AddsSkip (record { number = n; cause = why }) old new

-- the cache file's name
abbrev pub is_cache : Name → Bool
is_cache name.Cache = true
is_cache other = false
