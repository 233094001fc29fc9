-- Where the text of the next message goes (own, after Dovecot's mdbox_rotate_size).
use Rattle.std.specs.Prelude.{◌≡◌, ◌⊎◌, ℕ, ◌+◌, ◌^◌, ◌<◌, ◌≤◌, max, List, [], All, Contains, Option, Some, None, IfSome, option_map, Result, Ok, Err, ⊤}
use Rattle.dv_model.specs.declared.types.Mailbox.{Mailbox}
use Rattle.dv_model.specs.declared.types.Record.{Record}
use Rattle.dv_model.specs.declared.types.Row.{Row}
use Rattle.dv_model.specs.Effects.{applied}
use Rattle.dv_shelf.specs.declared.shelf.Name.{Name}
use Rattle.dv_shelf.specs.declared.shelf.Name.TheVariants as name
use Rattle.dv_shelf.specs.Folders.{Folder, Lists}
use Rattle.dv_maps.specs.declared.place.Place.{Place}
use Rattle.dv_maps.specs.Laws.{IsMap, map_extensions}
use Rattle.dv_maps.specs.Maps.{row_place}
use Rattle.dv_mdbox.specs.declared.fault.StorageFault.{StorageFault}
use Rattle.dv_mdbox.specs.declared.fault.StorageFault.TheVariants as fault
use Rattle.dv_mdbox.specs.declared.tails.Tail.{Tail}
use Rattle.dv_mdbox.specs.declared.tails.Target.{Target}

-- where a text ends
abbrev pub end_of : Place → ℕ
end_of place = place.offset + place.size

-- no place names a file with a higher number, and none ends later in this one
pub record IsBefore (t : Tail) (place : Place) : Type 0 where
  pub highest : place.file ≤ t.file
  pub ends : place.file ≡ t.file → end_of place ≤ t.end

-- of some rows, the last text of the file with the highest number that they name ends there
pub record IsTail (m : Mailbox) (rows : List Row) (t : Tail) : Type 0 where
  pub each : All (λ row. IsBefore t (row_place m row)) rows
  pub reached : (row : Row) × Contains rows row × ((row_place m row).file ≡ t.file)
      × (end_of (row_place m row) ≡ t.end)

-- or there is no row
abbrev pub IsTailOf : Mailbox → List Row → Option Tail → Type 0
IsTailOf m rows None = rows ≡ []
IsTailOf m rows (Some t) = IsTail m rows t

-- Where the end of the last file is kept, it is the map's, which has the extensions of a storage.
abbrev pub KeepsEnd : Mailbox → Option Tail → Type 0
KeepsEnd m None = ⊤
KeepsEnd m (Some t) = (m.extensions ≡ map_extensions) × IsTail m m.rows t

-- so it is behind these records
abbrev pub KeepsEndBehind : Mailbox → List Record → Option Tail → Type 0
KeepsEndBehind m records tail =
    (after : Mailbox) → applied m records ≡ Some after → KeepsEnd after tail

-- it is the end of a text at this place, where the mailbox is a map
abbrev pub IsEndBehind : Mailbox → Place → Option Tail → Type 0
IsEndBehind m place None = IsMap m → ⊥
IsEndBehind m place (Some t) = IsMap m × (t.file ≡ place.file) × (t.end ≡ end_of place)

-- the tail with one place more
pub record Extends (tail : Option Tail) (place : Place) (t : Tail) : Type 0 where
  pub new : IsBefore t place
  pub old : IfSome tail (λ o. (o.file ≤ t.file) × (o.file ≡ t.file → o.end ≤ t.end))
  pub reached : ((place.file ≡ t.file) × (end_of place ≡ t.end)) ⊎ (tail ≡ Some t)

-- ---- a new file

-- the highest number of a message file of a listing, where there is one
abbrev pub IsHighest : List Name → Option ℕ → Type 0
IsHighest names None = (n : ℕ) → Contains names (name.Mail n) → ⊥
IsHighest names (Some h) =
    Contains names (name.Mail h) × ((n : ℕ) → Contains names (name.Mail n) → n ≤ h)

-- the number of a message file
abbrev pub mail_number : Name → Option ℕ
mail_number (name.Mail n) = Some n
mail_number other = None

-- the larger of two numbers, where there is one
abbrev pub larger : Option ℕ → Option ℕ → Option ℕ
larger None b = b
larger (Some a) None = Some a
larger (Some a) (Some b) = Some (max a b)

-- the number behind, or 1 where there is none
abbrev pub number_behind : Option ℕ → ℕ
number_behind None = 1
number_behind (Some n) = n + 1

-- the number of a tail's file
abbrev pub tail_file : Option Tail → Option ℕ
tail_file tail = option_map (λ t. t.file) tail

-- a file is full at 2 MiB
abbrev pub file_limit : ℕ
file_limit = 2097152

-- a text goes behind the last one of a file that isn't full
abbrev pub GoesBehind : Option Tail → Type 0
GoesBehind None = ⊥
GoesBehind (Some t) = t.end < file_limit

-- all texts of the map stand before there: in files of lower numbers, or in this one
abbrev pub IsFreeFrom : Mailbox → Target → Type 0
IsFreeFrom m target =
    All (λ row. IsBefore (record { file = target.file; end = target.offset }) (row_place m row))
    m.rows

-- a text of so many bytes may stand at the place: all of the map's stand before there, and its
-- numbers have 32 bits
pub record IsPlaceFor (m : Mailbox) (long : ℕ) (place : Place) : Type 0 where
  pub free : IsFreeFrom m (record { file = place.file; offset = place.offset })
  pub size : place.size ≡ long
  pub end : place.offset + place.size < 2 ^ 32

-- ---- what is found

-- the highest number of a message file of the folder, where it tells its files
abbrev pub IsListed : Type 0 → Folder → Option ℕ → Type 0
IsListed tells folder highest =
    (names : List Name) × IsHighest names highest × (tells → Lists folder names)

-- Files is answered exactly where the highest number that the map and the folder name is the last
-- one; else the number behind it is given, of 32 bits, unless the listing failed.
abbrev pub FindsFile : Type 0 → Folder → Option Tail → Result ℕ StorageFault → Type 0
FindsFile tells folder tail (Ok file) =
    (highest : Option ℕ) × IsListed tells folder highest
    × (file ≡ number_behind (larger (tail_file tail) highest)) × (file < 2 ^ 32)
FindsFile tells folder tail (Err fault.Files) =
    (highest : Option ℕ) × IsListed tells folder highest
    × (larger (tail_file tail) highest ≡ Some 4294967295)
FindsFile tells folder tail (Err (fault.Disk faults)) = ⊤
FindsFile tells folder tail (Err fault.NoMemory) = ⊤
FindsFile tells folder tail (Err other) = ⊥

-- The next text goes behind the last one of the file with the highest number that the map names, or
-- to the start of a new file where it names none, or where that text ends at 2 MiB or later.
abbrev pub FindsTarget : Type 0 → Folder → Mailbox → Result Target StorageFault → Type 0
FindsTarget tells folder m (Ok target) =
    (tail : Option Tail) × IsTailOf m m.rows tail
    × ((GoesBehind tail × (tail ≡ Some (record { file = target.file; end = target.offset })))
    ⊎ ((GoesBehind tail → ⊥) × (target.offset ≡ 0)
    × FindsFile tells folder tail (Ok target.file)))
FindsTarget tells folder m (Err e) =
    (tail : Option Tail) × IsTailOf m m.rows tail × (GoesBehind tail → ⊥)
    × FindsFile tells folder tail (Err e)
