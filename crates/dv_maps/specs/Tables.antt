-- The rows of a map by the files that their texts stand in.
use Rattle.std.specs.Prelude.{◌≡◌, ◌⊎◌, ℕ, ◌+◌, ◌≤◌, Bool, List, [], All, Contains, filter, map, nat_eq, nat_le}
use Rattle.dv_model.specs.declared.types.Mailbox.{Mailbox}
use Rattle.dv_maps.specs.declared.mapped.Mapped.{Mapped}
use Rattle.dv_maps.specs.declared.tables.Listed.{Listed}
use Rattle.dv_maps.specs.Purges.{Rewrites, all_mapped, is_kept}

-- ---- rows and files

-- a row's text stands in this file
abbrev pub is_in : ℕ → Mapped → Bool
is_in file r = nat_eq r.place.file file

-- the rows whose texts stand in it
abbrev pub rows_in : ℕ → List Mapped → List Mapped
rows_in file rs = filter (is_in file) rs

-- some row names the file
abbrev pub IsNamedBy : List Mapped → ℕ → Type 0
IsNamedBy rs file = (r : Mapped) × Contains rs r × (r.place.file ≡ file)

-- ---- a table

-- what a table has of a row: its file and its id
abbrev pub listed : Mapped → Listed
listed r = record { file = r.place.file; id = r.id }

abbrev pub all_listed : List Mapped → List Listed
all_listed rs = map listed rs

-- what it has of a file
abbrev pub is_of : ℕ → Listed → Bool
is_of file row = nat_eq row.file file

abbrev pub listed_of : ℕ → List Listed → List Listed
listed_of file table = filter (is_of file) table

-- what it has of the files from a number on
abbrev pub listed_from : ℕ → List Listed → List Listed
listed_from from table = filter (λ row. nat_le from row.file) table

-- of each file it has the rows in their order, and no other
abbrev pub IsTableOf : List Mapped → List Listed → Type 0
IsTableOf rs table = (file : ℕ) → listed_of file table ≡ all_listed (rows_in file rs)

-- ---- while files are rewritten

-- of this file it has the rows in their order; or the file is newer than the table, which has none
-- of it, and all its rows have references
abbrev pub TellsOf : ℕ → List Mapped → List Listed → Type 0
TellsOf file rs table =
    (listed_of file table ≡ all_listed (rows_in file rs))
    ⊎ ((listed_of file table ≡ []) × All (λ r. 1 ≤ r.count) (rows_in file rs))

-- so it is of each file from a number on
abbrev pub IsTableFrom : ℕ → List Mapped → List Listed → Type 0
IsTableFrom from rs table = (file : ℕ) → from ≤ file → TellsOf file rs table

-- A table is one from each number on. It stays so behind a file that is rewritten, where its kept
-- rows go to a file that no row named.
pub record TablesStay : Type 0 where
  pub whole : (rs : List Mapped) (table : List Listed) (from : ℕ) → IsTableOf rs table
      → IsTableFrom from rs table
  pub behind : (m after : Mailbox) (file new from : ℕ) (table : List Listed)
      → Rewrites file new m after
      → (filter (is_kept file) (all_mapped m) ≡ [])
      ⊎ All (λ r. r.place.file ≡ new → ⊥) (all_mapped m)
      → from ≤ file
      → IsTableFrom from (all_mapped m) table
      → IsTableFrom (file + 1) (all_mapped after) table
