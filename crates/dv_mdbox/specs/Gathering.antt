-- What a purge finds in the rows of a map and in a file.
use Rattle.std.specs.Prelude.{◌≡◌, ◌≢◌, ◌⊎◌, ℕ, ◌^◌, ◌<◌, ◌≤◌, List, [], ◌∷◌, ◌++◌, All, Contains, IfSome, IsSomeAnd, Option, Some, None, filter, map}
use Rattle.dv_model.specs.declared.types.Mailbox.{Mailbox}
use Rattle.dv_model.specs.Journals.{Damaged}
use Rattle.dv_shelf.specs.declared.shelf.Name.{Name}
use Rattle.dv_shelf.specs.declared.shelf.Name.TheVariants as name
use Rattle.dv_maps.specs.declared.mapped.Mapped.{Mapped}
use Rattle.dv_maps.specs.declared.place.Place.{Place}
use Rattle.dv_maps.specs.Purges.{bytes_in, is_gone, is_kept, size_of, texts_in}
use Rattle.dv_maps.specs.Texts.{text_in}
use Rattle.dv_mdbox.specs.declared.gathering.FileRows.{FileRows}
use Rattle.dv_mdbox.specs.Purging.{IsNamed, gone_ids, kept_rows}

-- the message files of a listing that no row names
pub record AreOrphans (m : Mailbox) (names : List Name) (files : List ℕ) : Type 0 where
  pub none : All (λ file. IsNamed m file → ⊥) files
  pub others : (file : ℕ) → Contains names (name.Mail file) → IsNamed m file ⊎ Contains files file

-- the lesser of a number and that of a row without references, from a number on
pub record IsLess (from : ℕ) (least : Option ℕ) (row : Mapped) (now : Option ℕ) : Type 0 where
  pub old : IfSome least (λ a. IfSome now (λ b. b ≤ a))
  pub kept : now ≡ None → least ≡ None
  pub new : row.count ≡ 0 → (row.place.file < from) ⊎ IsSomeAnd now (λ b. b ≤ row.place.file)
  pub is : IfSome now (λ b. (least ≡ Some b)
      ⊎ ((row.count ≡ 0) × (row.place.file ≡ b) × (from ≤ b)))

-- there is one whole text at the place, exactly where it isn't damaged
abbrev pub GathersFrom : List ℕ → Place → Option (List ℕ) → Type 0
GathersFrom bytes place None = text_in (Some bytes) place ≡ Damaged
GathersFrom bytes place (Some text) =
    (text ≡ bytes_in bytes place) × (text_in (Some bytes) place ≢ Damaged)

-- The texts of some rows in a file, one behind another, exactly where each is whole and they aren't
-- too long together; none where one is damaged, or where they are too long.
abbrev pub Gathers : Option (List ℕ) → List Mapped → Option (List ℕ) → Type 0
Gathers file rows None =
    ((r : Mapped) × Contains rows r × (text_in file r.place ≡ Damaged)) ⊎ (2 ^ 32 ≤ size_of rows)
Gathers file rows (Some texts) =
    (bytes : List ℕ) × (file ≡ Some bytes) × (texts ≡ texts_in bytes rows)
    × All (λ r. text_in file r.place ≢ Damaged) rows × (size_of rows < 2 ^ 32)

-- the rows of a file: those that it keeps, and the ids of the others
pub record AreRowsOf (m : Mailbox) (file : ℕ) (rows : FileRows) : Type 0 where
  pub kept : rows.kept.items ≡ kept_rows m file
  pub gone : rows.gone.items ≡ gone_ids m file

-- with one row more, where it is of the file
pub record AddsRow (file : ℕ) (row : Mapped) (old new : FileRows) : Type 0 where
  pub kept : new.kept.items ≡ old.kept.items ++ filter (is_kept file) (row ∷ [])
  pub gone : new.gone.items ≡ old.gone.items ++ map (λ r. r.id) (filter (is_gone file) (row ∷ []))
