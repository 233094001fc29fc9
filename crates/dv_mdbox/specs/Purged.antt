-- What a purge that is done leaves of a storage's rows and of its message files.
use Rattle.std.specs.Prelude.{◌≡◌, ◌⊎◌, ℕ, ◌<◌, ◌≤◌, List, [], ◌∷◌, All, None, length}
use Rattle.dv_model.specs.declared.types.Mailbox.{Mailbox}
use Rattle.dv_shelf.specs.declared.shelf.Name.TheVariants as name
use Rattle.dv_shelf.specs.Folders.{Folder}
use Rattle.dv_maps.specs.declared.mapped.Mapped.{Mapped}
use Rattle.dv_maps.specs.declared.place.Place.{Place}
use Rattle.dv_maps.specs.Purges.{all_mapped}
use Rattle.dv_mdbox.specs.Purging.{HasGone, IsFit, IsNamed}

-- ---- rows

-- of some rows in turn these ids went, and the others are left, each with its id and its count: a
-- row that goes is one of these, and one that stays has such a place
abbrev pub LeavesRows : (Mapped → Type 0) → (Mapped → Place → Type 0) → List Mapped → List ℕ
    → List Mapped → Type 0
LeavesRows Goes Stays [] gone left = (gone ≡ []) × (left ≡ [])
LeavesRows Goes Stays (r ∷ rs) gone left =
    (Goes r × (more : List ℕ) × (gone ≡ r.id ∷ more) × LeavesRows Goes Stays rs more left)
    ⊎ ((place : Place) × (rest : List Mapped) × (left ≡ record r { place = place } ∷ rest)
    × Stays r place × LeavesRows Goes Stays rs gone rest)

-- the file is rewritten: it has a row without references, and its kept texts are fit for that
abbrev pub IsPurgedFile : Folder → Mailbox → ℕ → Type 0
IsPurgedFile folder m file = HasGone m file × IsFit folder m file

-- a row goes: it has no reference, and its file is rewritten
abbrev pub Goes : Folder → Mailbox → Mapped → Type 0
Goes folder m r = (r.count ≡ 0) × IsPurgedFile folder m r.place.file

-- one that stays keeps its place, where its file isn't rewritten; else it has references, and its
-- text is in a file above all that the map names
abbrev pub StaysAt : Folder → Mailbox → Mapped → Place → Type 0
StaysAt folder m r place =
    ((IsPurgedFile folder m r.place.file → ⊥) × (place ≡ r.place))
    ⊎ (IsPurgedFile folder m r.place.file × (1 ≤ r.count) × (place.size ≡ r.place.size)
    × All (λ x. x.place.file < place.file) (all_mapped m))

-- ---- a storage

-- the files that are named before and behind it are as before
abbrev pub KeepsNamed : Folder → Folder → Mailbox → Mailbox → Type 0
KeepsNamed old new m after =
    (file : ℕ) → IsNamed m file → IsNamed after file → new (name.Mail file) ≡ old (name.Mail file)

-- So many ids went: exactly the rows without references of the files that are rewritten. These
-- files are gone, and the others that the map named are as before.
pub record IsPurged (old new : Folder) (m after : Mailbox) (n : ℕ) : Type 0 where
  pub gone : List ℕ
  pub rows : LeavesRows (Goes old m) (StaysAt old m) (all_mapped m) gone (all_mapped after)
  pub count : n ≡ length gone
  pub removed : (file : ℕ) → IsPurgedFile old m file → new (name.Mail file) ≡ None
  pub others : (file : ℕ) → IsNamed m file → (IsPurgedFile old m file → ⊥)
      → new (name.Mail file) ≡ old (name.Mail file)
