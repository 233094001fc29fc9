-- What the groups of a storage do to the storage of its map, and to what is kept of its texts.
use Rattle.std.specs.Prelude.{◌≡◌, ◌⊎◌, ℕ, ◌-◌, ◌^◌, ◌<◌, ◌≤◌, List, [], ◌∷◌, ◌++◌, All, Some, codes, length, IsSome, flat_map}
use Rattle.dv_model.specs.declared.types.Extension.{Extension}
use Rattle.dv_model.specs.declared.types.Mailbox.{Mailbox}
use Rattle.dv_model.specs.Effects.{applied}
use Rattle.dv_model.specs.Journals.{Held}
use Rattle.dv_model.specs.declared.types.Record.{Record}
use Rattle.dv_model.specs.Mailboxes.{IsValid}
use Rattle.dv_model.specs.Spelling.{IsRecord, IsUid, written}
use Rattle.dv_shelf.specs.Folders.{Folder}
use Rattle.dv_maps.specs.declared.place.Place.{Place}
use Rattle.dv_maps.specs.Groups.{count_records, save_records}
use Rattle.dv_maps.specs.Maps.{places_of, row_count}
use Rattle.dv_maps.specs.Storages.{saved, storage_of, with_count}
use Rattle.dv_maps.specs.Texts.{KeepsTexts, Messages, text_at, with_message}

-- ---- the map of a storage

-- an extension of so many bytes for each row
abbrev pub extension_of : List ℕ → ℕ → ℕ → Extension
extension_of name size align = record {
  name = name;
  reset_id = 0;
  header = [];
  record_size = size;
  record_align = align;
  flags = 0;
}

-- those of a map, from its first row on
abbrev pub map_extensions : List Extension
map_extensions = extension_of (codes "map") 12 4 ∷ extension_of (codes "ref") 2 2 ∷ []

-- the mailbox is a map with rows, or a new one
abbrev pub IsMap : Mailbox → Type 0
IsMap m = (m.extensions ≡ map_extensions) ⊎ ((m.extensions ≡ []) × (m.rows ≡ []))

-- ---- a copy and a drop

-- the rows of this id have this count
abbrev pub HasCount : Mailbox → ℕ → ℕ → Type 0
HasCount m id count = All (λ row. row.uid ≡ id → row_count m row ≡ count) m.rows

-- the map is one behind it, whose storage is the old one but for a count, and what is kept of the
-- texts stays
pub record Counts (id : ℕ) (change : ℕ → ℕ) (m after : Mailbox) : Type 0 where
  pub map : IsMap after
  pub storage : (messages : Messages)
      → storage_of messages after ≡ with_count id change (storage_of messages m)
  pub keeps : (messages : Messages) (folder : Folder) → KeepsTexts messages m folder
      → KeepsTexts messages after folder

-- an id that has references has this count then
abbrev pub CountsAre : Type 0
CountsAre =
    (m after : Mailbox) (id old new : ℕ)
    → IsMap m
    → IsValid m
    → 1 ≤ length m.rows
    → (id < 2 ^ 32) × (1 ≤ old) × (new < 2 ^ 16)
    → HasCount m id old
    → applied m (count_records id new) ≡ Some after
    → (change : ℕ → ℕ) → change old ≡ new
    → Counts id change m after

-- ---- a save

-- the map is one behind it, whose storage has the message, and where the text stands at its place
-- the texts are kept
pub record Saves (place : Place) (m after : Mailbox) : Type 0 where
  pub map : IsMap after
  pub storage : (messages : Messages) (message : List ℕ)
      → storage_of (with_message m.next_uid message messages) after
      ≡ saved message (storage_of messages m)
  pub keeps : (messages : Messages) (message : List ℕ) (folder : Folder)
      → KeepsTexts messages m folder
      → text_at folder place ≡ Held message
      → KeepsTexts (with_message m.next_uid message messages) after folder

-- the three numbers of a place are of 32 bits
pub record IsPlace (place : Place) : Type 0 where
  pub file : place.file < 2 ^ 32
  pub offset : place.offset < 2 ^ 32
  pub size : place.size < 2 ^ 32

abbrev pub SavesAre : Type 0
SavesAre =
    (m after : Mailbox) (place : Place)
    → IsMap m
    → IsValid m
    → m.next_uid < 2 ^ 32 - 1
    → IsPlace place
    → applied m (save_records m.next_uid place) ≡ Some after
    → Saves place m after

-- ---- the records

-- records that have a spelling, apply to a map, and take so many bytes
pub record AreWritten (m : Mailbox) (records : List Record) (size : ℕ) : Type 0 where
  pub spelled : All IsRecord records
  pub applies : IsSome (applied m records)
  pub bytes : length (flat_map written records) ≡ size

abbrev pub CountsAreWritten : Type 0
CountsAreWritten = (m : Mailbox) (id count : ℕ) → AreWritten m (count_records id count) 48

abbrev pub SavesAreWritten : Type 0
SavesAreWritten =
    (m : Mailbox) (place : Place) → IsUid m.next_uid
    → AreWritten m (save_records m.next_uid place) 120

-- ---- where the texts stand

-- the map has its extensions, and the texts of its rows stand at these places
abbrev pub HasPlaces : Mailbox → List Place → Type 0
HasPlaces m places = (m.extensions ≡ map_extensions) × (places_of m ≡ places)

-- A copy and a drop leave all places of a map with rows, and a save adds one behind those of a map.
pub record PlacesAre : Type 0 where
  pub counts : (m after : Mailbox) (id count : ℕ)
      → m.extensions ≡ map_extensions
      → IsValid m
      → applied m (count_records id count) ≡ Some after
      → HasPlaces after (places_of m)
  pub saves : (m after : Mailbox) (place : Place)
      → IsMap m
      → IsValid m
      → IsPlace place
      → applied m (save_records m.next_uid place) ≡ Some after
      → HasPlaces after (places_of m ++ place ∷ [])
