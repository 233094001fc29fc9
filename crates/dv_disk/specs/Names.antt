-- The names among a folder's entries.
use Rattle.std.specs.Prelude.{◌≢◌, List, [], ◌∷◌, Contains, AllPairs}
use Rattle.dv_shelf.specs.declared.shelf.Name.{Name}
use Rattle.dv_system.specs.declared.system.Entry.{Entry}
use Rattle.dv_system.specs.declared.system.Entry.TheVariants as entry

-- these are the names of the files, and they stand once each where the entries do
pub record AreNamesOf (entries : List Entry) (names : List Name) : Type 0 where
  pub there : (n : Name) → Contains names n → Contains entries (entry.File n)
  pub all : (n : Name) → Contains entries (entry.File n) → Contains names n
  pub once : AllPairs (λ a b. a ≢ b) entries → AllPairs (λ a b. a ≢ b) names

-- the name of an entry, if it is one of the mailbox
abbrev pub names_in : Entry → List Name
names_in (entry.File n) = n ∷ []
names_in entry.Temporary = []
