-- Which row a look-up in a cache file gives.
use Rattle.std.specs.Prelude.{◌≡◌, ◌≢◌, ℕ, ◌+◌, ◌*◌, ◌<◌, ◌≤◌, List, [], ◌∷◌, length, take, drop, Option, Some, All}
use Rattle.std.specs.Int.{w32, from_le_bytes}
use Rattle.dv_cache.specs.declared.row.CacheRow.{CacheRow}
use Rattle.dv_cache.specs.Caches.{fields_text, IsShort}

-- the number of four bytes
abbrev pub word_at : ℕ → List ℕ → ℕ
word_at at b = from_le_bytes w32 (take 4 (drop at b))

-- the header of this indexid and sequence, in a file of the length that it says
pub record HasHeader (indexid seq : ℕ) (b : List ℕ) : Type 0 where
  pub size : 32 ≤ length b
  pub named : take 8 b ≡ 100 ∷ 118 ∷ 99 ∷ 97 ∷ 1 ∷ 0 ∷ 0 ∷ 0 ∷ []
  pub of : word_at 8 b ≡ indexid
  pub numbered : word_at 12 b ≡ seq
  pub whole : word_at 20 b ≡ length b

-- at the offset stands an entry of this UID, and its fields have a place
pub record HasEntry (uid offset : ℕ) (b : List ℕ) : Type 0 where
  pub counted : (i : ℕ) × (offset ≡ 32 + 16 * i) × (i < word_at 16 b)
  pub size : offset + 16 ≤ length b
  pub of : word_at offset b ≡ uid
  pub placed : word_at (offset + 12) b ≢ 0

-- the bytes begin with five fields
pub record AreFieldsOf (b : List ℕ) (fields : List (Option (List ℕ))) : Type 0 where
  pub five : length fields ≡ 5
  pub short : All IsShort fields
  pub text : take (length (fields_text fields)) b ≡ fields_text fields

-- the file has the row at the offset: its UID, its sizes, and the five fields at the place that the
-- entry names
pub record IsRowAt (b : List ℕ) (indexid seq uid offset : ℕ) (row : CacheRow) : Type 0 where
  pub header : HasHeader indexid seq b
  pub entry : HasEntry uid offset b
  pub fields : List (Option (List ℕ))
  pub stand : AreFieldsOf (drop (word_at (offset + 12) b) b) fields
  pub is : row ≡ record { uid = uid; known = Some (record { physical = word_at (offset + 4) b; virtual_size = word_at (offset + 8) b; fields = fields }) }
