-- The text of a cache file, in a layout of this project's own: a header, an entry of 16 bytes for
-- each row, and the fields of the rows, one behind another. Numbers are little-endian.
use Rattle.std.specs.Prelude.{◌≡◌, ℕ, ◌+◌, ◌*◌, ◌<◌, Bool, ◌&&◌, nat_le, if◌then◌else◌, List, [], ◌∷◌, ◌++◌, length, flat_map, replicate, sum_by, Option, Some, None}
use Rattle.std.specs.Int.{w32, to_le_bytes}
use Rattle.dv_cache.specs.declared.row.CacheRow.{CacheRow}
use Rattle.dv_cache.specs.declared.row.Known.{Known}

-- ---- the fields

-- a field's length and its bytes, or 0xffffffff alone where it is absent
abbrev pub field_text : Option (List ℕ) → List ℕ
field_text None = to_le_bytes w32 4294967295
field_text (Some value) = to_le_bytes w32 (length value) ++ value

-- a field shorter than the length that says that it is absent
abbrev pub IsShort : Option (List ℕ) → Type 0
IsShort None = Unit {0}
IsShort (Some value) = length value < 4294967295

-- a row's fields, one behind another
abbrev pub fields_text : List (Option (List ℕ)) → List ℕ
fields_text fields = flat_map field_text fields

-- the number of a field's bytes
abbrev pub field_size : Option (List ℕ) → ℕ
field_size None = 0
field_size (Some value) = length value

-- ---- what is kept

-- the sizes are at most 2^31, the fields have at most 65,536 bytes in sum, and their text, which
-- begins at this place, ends within 2^30 bytes
abbrev pub fits : ℕ → Known → Bool
fits at known =
    nat_le known.physical 2147483648 && nat_le known.virtual_size 2147483648
    && nat_le (sum_by field_size known.fields) 65536
    && nat_le (at + length (fields_text known.fields)) 1073741824

-- what is kept of a row whose fields would begin at this place
abbrev pub kept : ℕ → Option Known → Option Known
kept at None = None
kept at (Some known) = if fits at known then Some known else None

-- the text of the fields that are kept
abbrev pub known_text : Option Known → List ℕ
known_text None = []
known_text (Some known) = fields_text known.fields

-- the place of a row's fields, where those before begin at this place
abbrev pub place_behind : ℕ → List CacheRow → ℕ
place_behind at [] = at
place_behind at (row ∷ rows) = place_behind (at + length (known_text (kept at row.known))) rows

-- the text of the rows' fields, from this place on
abbrev pub texts_from : ℕ → List CacheRow → List ℕ
texts_from at [] = []
texts_from at (row ∷ rows) =
    known_text (kept at row.known) ++ texts_from (at + length (known_text (kept at row.known))) rows

-- ---- the entries

-- the UID, the physical and the virtual size, and the place of the fields
abbrev pub entry_text : ℕ → ℕ → ℕ → ℕ → List ℕ
entry_text uid physical virtual_size place =
    to_le_bytes w32 uid ++ to_le_bytes w32 physical ++ to_le_bytes w32 virtual_size
    ++ to_le_bytes w32 place

-- a row's entry, which is zero behind the UID where nothing is kept
abbrev pub row_entry : ℕ → ℕ → Option Known → List ℕ
row_entry at uid None = entry_text uid 0 0 0
row_entry at uid (Some known) = entry_text uid known.physical known.virtual_size at

-- the entries of rows whose fields begin at this place
abbrev pub entries_from : ℕ → List CacheRow → List ℕ
entries_from at [] = []
entries_from at (row ∷ rows) =
    row_entry at row.uid (kept at row.known)
    ++ entries_from (at + length (known_text (kept at row.known))) rows

-- ---- the file

-- `dvca`, the version 1, the indexid, the sequence, the number of entries, the file's length and
-- eight zero bytes
abbrev pub header_text : ℕ → ℕ → ℕ → ℕ → List ℕ
header_text indexid seq count size =
    (100 ∷ 118 ∷ 99 ∷ 97 ∷ 1 ∷ 0 ∷ 0 ∷ 0 ∷ []) ++ to_le_bytes w32 indexid ++ to_le_bytes w32 seq
    ++ to_le_bytes w32 count ++ to_le_bytes w32 size ++ replicate 8 0

-- where the first fields begin
abbrev pub first_place : List CacheRow → ℕ
first_place rows = 32 + 16 * length rows

-- the whole file
abbrev pub cache_text : ℕ → ℕ → List CacheRow → List ℕ
cache_text indexid seq rows =
    header_text indexid seq (length rows) (place_behind (first_place rows) rows)
    ++ entries_from (first_place rows) rows ++ texts_from (first_place rows) rows

-- ---- which rows are written

-- five fields, where the message is known
abbrev pub HasFive : Option Known → Type 0
HasFive None = Unit {0}
HasFive (Some known) = length known.fields ≡ 5
