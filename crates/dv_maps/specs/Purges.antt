-- What the purge of a storage does to its map, file by file, and to the storage.
use Rattle.std.specs.Prelude.{◌≡◌, ◌⊎◌, ℕ, ◌+◌, ◌^◌, ◌<◌, ◌≤◌, ◌&&◌, Bool, List, [], ◌∷◌, All, IsSome, Some, drop, filter, flat_map, length, map, sum_by, take, nat_eq, nat_lt, if◌then◌else◌}
use Rattle.dv_model.specs.declared.types.Mailbox.{Mailbox}
use Rattle.dv_model.specs.declared.types.Record.{Record}
use Rattle.dv_model.specs.declared.types.Row.{Row}
use Rattle.dv_model.specs.Effects.{applied}
use Rattle.dv_model.specs.Journals.{Held}
use Rattle.dv_model.specs.Mailboxes.{IsValid}
use Rattle.dv_model.specs.Spelling.{IsRecord}
use Rattle.dv_shelf.specs.declared.shelf.Name.TheVariants as name
use Rattle.dv_shelf.specs.Folders.{Folder}
use Rattle.dv_maps.specs.declared.mapped.Mapped.{Mapped}
use Rattle.dv_maps.specs.declared.place.Place.{Place}
use Rattle.dv_maps.specs.declared.mapped.Placed.{Placed}
use Rattle.dv_maps.specs.Groups.{purge_records}
use Rattle.dv_maps.specs.Laws.{IsMap}
use Rattle.dv_maps.specs.Maps.{row_count, row_place}
use Rattle.dv_maps.specs.Storages.{Item, Storage, purged, storage_of}
use Rattle.dv_maps.specs.Texts.{KeepsTexts, Messages, text_in}

-- ---- the rows of a map

-- what a row says: its id, how many references it has, and where its text stands
abbrev pub mapped : Mailbox → Row → Mapped
mapped m row = record { id = row.uid; count = row_count m row; place = row_place m row }

abbrev pub all_mapped : Mailbox → List Mapped
all_mapped m = map (mapped m) m.rows

-- its text stands in this file, and it has references
abbrev pub is_kept : ℕ → Mapped → Bool
is_kept file r = nat_eq r.place.file file && nat_lt 0 r.count

-- or it has none
abbrev pub is_gone : ℕ → Mapped → Bool
is_gone file r = nat_eq r.place.file file && nat_eq r.count 0

-- ---- the records for one file

-- the texts go into a new file one behind another, from this place on
abbrev pub moved : ℕ → ℕ → List Mapped → List Placed
moved new at [] = []
moved new at (r ∷ rs) =
    record { id = r.id; place = record { file = new; offset = at; size = r.place.size } }
    ∷ moved new (at + r.place.size) rs

-- so do those of the rows that a file keeps, and the others are removed
abbrev pub file_records : ℕ → ℕ → List Mapped → List Record
file_records file new rs =
    purge_records (moved new 0 (filter (is_kept file) rs))
    (map (λ r. r.id) (filter (is_gone file) rs))

-- the bytes of these rows' texts
abbrev pub size_of : List Mapped → ℕ
size_of rows = sum_by (λ r. r.place.size) rows

-- the bytes of the texts that a file keeps
abbrev pub kept_size : ℕ → List Mapped → ℕ
kept_size file rs = size_of (filter (is_kept file) rs)

-- ---- the map behind it

-- a row of the file is gone, or its text stands in the new file from this place on; others stay
abbrev pub rewritten : ℕ → ℕ → ℕ → List Mapped → List Mapped
rewritten file new at [] = []
rewritten file new at (r ∷ rs) =
    if nat_eq r.place.file file
    then (if nat_lt 0 r.count
    then record r { place = record { file = new; offset = at; size = r.place.size } }
    ∷ rewritten file new (at + r.place.size) rs
    else rewritten file new at rs)
    else r ∷ rewritten file new at rs

-- the map is another one, whose rows are so
pub record Rewrites (file new : ℕ) (m after : Mailbox) : Type 0 where
  pub map : IsMap after
  pub next : after.next_uid ≡ m.next_uid
  pub rows : all_mapped after ≡ rewritten file new 0 (all_mapped m)

abbrev pub RewritesAre : Type 0
RewritesAre =
    (m after : Mailbox) (file new : ℕ)
    → IsMap m
    → IsValid m
    → 1 ≤ length m.rows
    → new < 2 ^ 32
    → kept_size file (all_mapped m) < 2 ^ 32
    → applied m (file_records file new (all_mapped m)) ≡ Some after
    → Rewrites file new m after

-- the records have a spelling, and apply to any map
pub record AreSpelled (m : Mailbox) (records : List Record) : Type 0 where
  pub spelled : All IsRecord records
  pub applies : IsSome (applied m records)

abbrev pub RewritesAreWritten : Type 0
RewritesAreWritten =
    (m : Mailbox) (file new : ℕ) → IsValid m
    → AreSpelled m (file_records file new (all_mapped m))

-- ---- the storage behind it

-- some of the items that have no reference are gone
abbrev pub LosesSome : List Item → List Item → Type 0
LosesSome [] left = left ≡ []
LosesSome (item ∷ items) left =
    ((item.count ≡ 0) × LosesSome items left)
    ⊎ ((rest : List Item) × (left ≡ item ∷ rest) × LosesSome items rest)

-- a storage without some ids that have no reference
pub record IsThinned (s left : Storage) : Type 0 where
  pub next : left.next ≡ s.next
  pub items : LosesSome s.items left.items

-- the bytes at a place
abbrev pub bytes_in : List ℕ → Place → List ℕ
bytes_in bytes place = take place.size (drop place.offset bytes)

-- the texts of some rows of a file one behind another
abbrev pub texts_in : List ℕ → List Mapped → List ℕ
texts_in bytes rs = flat_map (λ r. bytes_in bytes r.place) rs

-- a row's text stands in the file, where its message is known
pub record StandsIn (messages : Messages) (bytes : List ℕ) (r : Mapped) : Type 0 where
  pub inside : r.place.offset + r.place.size ≤ length bytes
  pub held : (message : List ℕ) → messages r.id ≡ Some message
      → text_in (Some bytes) r.place ≡ Held message

-- The kept texts of a file go into a new one, where there are some, and the files that the map
-- names stay: its texts are kept.
abbrev pub RewritesKeep : Type 0
RewritesKeep =
    (messages : Messages) (m after : Mailbox) (file new : ℕ) (bytes : List ℕ) (d c : Folder)
    → Rewrites file new m after
    → KeepsTexts messages m d
    → All (λ r. c (name.Mail r.place.file) ≡ d (name.Mail r.place.file)) (all_mapped m)
    → All (StandsIn messages bytes) (filter (is_kept file) (all_mapped m))
    → (filter (is_kept file) (all_mapped m) ≡ [])
    ⊎ (c (name.Mail new) ≡ Some (texts_in bytes (filter (is_kept file) (all_mapped m))))
    → KeepsTexts messages after c

-- ---- laws of storages that lose ids

-- a rewritten file takes ids from the storage that have no reference
abbrev pub RewritesThin : Type 0
RewritesThin =
    (messages : Messages) (m after : Mailbox) (file new : ℕ) → Rewrites file new m after
    → IsThinned (storage_of messages m) (storage_of messages after)

-- Some ids are none, and some and then others are some. Where none without a reference is left, all
-- of them are gone.
pub record ThinningsAre : Type 0 where
  pub none : (s : Storage) → IsThinned s s
  pub both : (s t u : Storage) → IsThinned s t → IsThinned t u → IsThinned s u
  pub all : (s left : Storage) → IsThinned s left → All (λ item. 1 ≤ item.count) left.items
      → left ≡ purged s
