-- Blocks of rows, one after another.
use Rattle.std.specs.Prelude.{◌≡◌, ℕ, ◌+◌, ◌-◌, ◌^◌, ◌<◌, Bool, true, false, List, [], ◌∷◌, All, flat_map, get_or, length, map, min, nat_lt, take}
use Rattle.std.specs.List.{remove_range}
use Rattle.std.specs.List.Sorted.{IsPartitionPoint, IsStrictlyIncreasing}
use Rattle.dv_blocks.specs.Cells.{Cell}
use Rattle.dv_blocks.specs.declared.chunk.Chunk.{Chunk}
use Rattle.dv_blocks.specs.declared.chunk.Entry.{Entry}

-- the rows of the blocks, in their order
abbrev pub cells_of : List Chunk → List Cell
cells_of chunks = flat_map (λ c. c.block.cells) chunks

-- their UIDs
abbrev pub uids_of : List Chunk → List ℕ
uids_of chunks = map (λ c. c.uid) (cells_of chunks)

-- how many rows are before each block, where so many are before the first
abbrev pub starts_from : ℕ → List Chunk → List ℕ
starts_from n [] = []
starts_from n (c ∷ chunks) = n ∷ starts_from (n + length c.block.cells) chunks

-- the number of rows before each block is at hand
abbrev pub AreCounted : List ℕ → List Chunk → Type 0
AreCounted starts chunks = starts ≡ starts_from 0 chunks

-- a block that has rows, all with parts of this length, and its first UID
pub record IsChunk (w : ℕ) (c : Chunk) : Type 0 where
  pub wide : c.block.width ≡ w
  pub filled : 0 < length c.block.cells
  pub first : c.first ≡ get_or (map (λ x. x.uid) c.block.cells) 0 0

-- UIDs are assigned in a strictly ascending fashion (RFC 3501, section 2.3.1.1), and the largest number is none
pub record AreRising (uids : List ℕ) : Type 0 where
  pub rising : IsStrictlyIncreasing uids
  pub below : All (λ u. u < 2 ^ 32 - 1) uids

-- blocks of rows by rising UID
pub record AreChunks (w : ℕ) (chunks : List Chunk) : Type 0 where
  pub each : All (IsChunk w) chunks
  pub rising : AreRising (uids_of chunks)

-- and the number of rows before each
pub record AreBlocks (w : ℕ) (starts : List ℕ) (chunks : List Chunk) : Type 0 where
  pub counted : AreCounted starts chunks
  pub are : AreChunks w chunks

-- the row at a place of all is that at a place of a block
pub record IsIn (chunks : List Chunk) (at block offset : ℕ) : Type 0 where
  pub inside : block < length chunks
  pub sum : length (cells_of (take block chunks)) + offset ≡ at
  pub within : (d : Chunk) → offset < length (get_or chunks block d).block.cells

-- the values of a row
pub record IsEntry (e : Entry) (c : Cell) : Type 0 where
  pub uid : e.uid ≡ c.uid
  pub flags : e.flags ≡ c.flags
  pub modseq : e.modseq ≡ c.modseq
  pub words : e.words ≡ c.words

-- the UIDs before the place are below this one, and those from it on are not
abbrev pub IsPlace : List ℕ → ℕ → ℕ → Type 0
IsPlace uids uid at = IsPartitionPoint (λ u. nat_lt u uid ≡ true) (λ u. nat_lt u uid ≡ false) uids at

-- the block with its rows changed
abbrev pub with_rows : (List Cell → List Cell) → Chunk → Chunk
with_rows f c = record c { block = record { width = c.block.width; cells = f c.block.cells } }

-- the row with these values and parts
abbrev pub cell_of : Entry → List ℕ → Cell
cell_of e part = record { uid = e.uid; flags = e.flags; modseq = e.modseq; words = e.words; part = part }

-- the block with its first UID
abbrev pub noted : Chunk → Chunk
noted c = record { first = get_or (map (λ x. x.uid) c.block.cells) 0 0; block = c.block }

-- the block without the rows from one place to another, as far as it has them
abbrev pub left_in : ℕ → ℕ → Chunk → Chunk
left_in i j c = noted (with_rows (λ cells. remove_range cells (min i (length cells)) (min j (length cells))) c)

-- without the rows from one place of all to another
abbrev pub left_from : ℕ → ℕ → List Chunk → List Chunk
left_from i j [] = []
left_from i j (c ∷ chunks) = left_in i j c ∷ left_from (i - length c.block.cells) (j - length c.block.cells) chunks

-- so many of the rows before a place stay: those before the first place, and those from the last one on
abbrev pub lowered : ℕ → ℕ → ℕ → ℕ
lowered i j n = min n i + (n - j)

-- the block has rows
abbrev pub has_rows : Chunk → Bool
has_rows c = nat_lt 0 (length c.block.cells)
