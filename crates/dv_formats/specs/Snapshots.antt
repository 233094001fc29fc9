-- The text of the index's snapshot, in the layout that is written (version 2) and in the older one
-- (version 1). Numbers are little-endian; what is padded goes up to a multiple of four with zero
-- bytes.
use Rattle.std.specs.Prelude.{◌≡◌, ℕ, ◌+◌, ◌*◌, ◌/◌, ◌%◌, ◌^◌, ◌<◌, ◌≤◌, not, List, [], ◌∷◌, ◌++◌, length, flat_map, replicate, sum_by, count_by, All, Option, Some, None, nat_eq, bit_and, if◌then◌else◌}
use Rattle.std.specs.Int.{w16, w32, w64, to_le_bytes}
use Rattle.std.specs.List.{range_with_len}
use Rattle.dv_model.specs.declared.types.Current.{Current}
use Rattle.dv_model.specs.declared.types.Extension.{Extension}
use Rattle.dv_model.specs.declared.types.Mailbox.{Mailbox}
use Rattle.dv_model.specs.declared.types.Mark.{Mark}
use Rattle.dv_model.specs.declared.types.Row.{Row}
use Rattle.dv_model.specs.Mailboxes.{IsValid}
use Rattle.dv_model.specs.Spelling.{padding, padded}

-- with zero bytes up to a multiple of four
abbrev pub filled : List ℕ → List ℕ
filled bytes = bytes ++ replicate (padding (length bytes)) 0

-- ---- the tables

-- a keyword with its length
abbrev pub keyword_text : List ℕ → List ℕ
keyword_text name = filled (to_le_bytes w16 (length name) ++ name)

-- an extension's numbers, name and header
abbrev pub extension_text : Extension → List ℕ
extension_text e =
    to_le_bytes w32 e.reset_id ++ to_le_bytes w32 (length e.header) ++ to_le_bytes w16 e.record_size
    ++ to_le_bytes w16 e.record_align
    ++ to_le_bytes w16 e.flags ++ to_le_bytes w16 (length e.name) ++ filled e.name ++ filled e.header

-- the keywords and then the extensions
abbrev pub tables_text : Mailbox → List ℕ
tables_text m = flat_map keyword_text m.keywords ++ flat_map extension_text m.extensions

-- ---- a row

-- one word for each 32 keywords begun
abbrev pub keyword_words : ℕ → ℕ
keyword_words names = (names + 31) / 32

-- the keyword at place k is bit k % 32 of word k / 32
abbrev pub keyword_word : List ℕ → ℕ → ℕ
keyword_word places word = sum_by (λ k. if nat_eq (k / 32) word then 2 ^ (k % 32) else 0) places

-- the words of a row's keywords
abbrev pub keyword_bits : ℕ → List ℕ → List ℕ
keyword_bits names places =
    flat_map (λ word. to_le_bytes w32 (keyword_word places word)) (range_with_len 0 (keyword_words names))

-- version 1 has no modification sequences
abbrev pub modseq_text : ℕ → Row → List ℕ
modseq_text version row = if nat_eq version 1 then [] else to_le_bytes w64 row.modseq

-- a row: its numbers, its keywords, and its part of each extension
abbrev pub row_text : ℕ → Mailbox → Row → List ℕ
row_text version m row =
    to_le_bytes w32 row.uid ++ row.flags ∷ 0 ∷ 0 ∷ 0 ∷ modseq_text version row
    ++ keyword_bits (length m.keywords) row.keywords ++ flat_map filled row.parts

-- the number of bytes of each row
abbrev pub row_size : ℕ → Mailbox → ℕ
row_size version m =
    (if nat_eq version 1 then 8 else 16) + 4 * keyword_words (length m.keywords) + sum_by (λ e. padded e.record_size) m.extensions

-- ---- the header

-- the place of the current extension plus 1 and its size, or twice 0
abbrev pub current_text : Option Current → List ℕ
current_text None = to_le_bytes w32 0 ++ to_le_bytes w32 0
current_text (Some current) =
    to_le_bytes w32 (current.extension + 1) ++ to_le_bytes w32 current.size

-- how many rows have the flag
abbrev pub rows_with : ℕ → Mailbox → ℕ
rows_with bit m = count_by (λ row. not (nat_eq (bit_and row.flags bit) 0)) m.rows

-- the highest modification sequence, which version 1 lacks
abbrev pub highest_text : ℕ → Mailbox → List ℕ
highest_text version m =
    if nat_eq version 1 then replicate 52 0 else to_le_bytes w64 m.highest ++ replicate 44 0

-- 120 bytes
abbrev pub header_text : ℕ → Mailbox → ℕ → Mark → List ℕ
header_text version m indexid mark =
    201 ∷ version ∷ to_le_bytes w16 120
    ++ to_le_bytes w32 (120 + length (tables_text m)) ++ to_le_bytes w32 (row_size version m)
    ++ to_le_bytes w32 0
    ++ to_le_bytes w32 indexid ++ to_le_bytes w32 0 ++ to_le_bytes w32 m.uid_validity
    ++ to_le_bytes w32 m.next_uid
    ++ to_le_bytes w32 (length m.rows) ++ to_le_bytes w32 mark.file_seq ++ to_le_bytes w32 mark.offset
    ++ to_le_bytes w32 (length m.keywords) ++ to_le_bytes w32 (length m.extensions)
    ++ current_text m.current
    ++ to_le_bytes w32 (rows_with 8 m) ++ to_le_bytes w32 (rows_with 4 m) ++ highest_text version m

-- the whole text: the header, the tables and the rows
abbrev pub snapshot_text : ℕ → Mailbox → ℕ → Mark → List ℕ
snapshot_text version m indexid mark =
    header_text version m indexid mark ++ tables_text m ++ flat_map (row_text version m) m.rows

-- ---- which texts are taken

-- bytes, and numbers of 16 and 32 bits
abbrev pub AreBytes : List ℕ → Type 0
AreBytes bytes = All (λ b. b < 256) bytes

-- an extension's bytes and numbers fit their fields
pub record HasFieldsOf (e : Extension) : Type 0 where
  pub text : AreBytes e.name × AreBytes e.header
  pub numbers : (e.reset_id < 2 ^ 32) × (e.record_size < 2 ^ 16) × (e.record_align < 2 ^ 16) × (e.flags < 2 ^ 16)

-- each number of the mailbox fits its field
pub record Fits (m : Mailbox) (indexid : ℕ) (mark : Mark) : Type 0 where
  pub validity : m.uid_validity < 2 ^ 32
  pub flags : All (λ row. row.flags < 256) m.rows
  pub parts : All (λ row. All AreBytes row.parts) m.rows
  pub extensions : All HasFieldsOf m.extensions
  pub named : (1 ≤ indexid) × (indexid < 2 ^ 32)
  pub place : (mark.file_seq < 2 ^ 32) × (mark.offset < 2 ^ 32)
  pub tables : 120 + length (tables_text m) < 2 ^ 32

-- version 1 reads as if each number were 1
abbrev pub IsNumbered : ℕ → Mailbox → Type 0
IsNumbered version m = version ≡ 1 → (m.highest ≡ 1) × All (λ row. row.modseq ≡ 1) m.rows

-- the text of a valid mailbox
pub record IsSnapshot (version : ℕ) (m : Mailbox) (indexid : ℕ) (mark : Mark) (b : List ℕ) : Type 0 where
  pub known : (1 ≤ version) × (version ≤ 2)
  pub valid : IsValid m
  pub fits : Fits m indexid mark
  pub numbered : IsNumbered version m
  pub text : b ≡ snapshot_text version m indexid mark
