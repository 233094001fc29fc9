-- Why bytes are no snapshot. The tests stand in their order, and each is made of a text that
-- passed those before it.
use Rattle.std.specs.Prelude.{◌≡◌, ◌⊎◌, ℕ, zero, suc, ◌+◌, ◌-◌, ◌*◌, ◌^◌, ◌<◌, ◌≤◌, not, List, [], ◌∷◌, ◌++◌, length, take, drop, map, flat_map, replicate, slice_index, slice_get, count_by, All, AllPairs, ◌≢◌, Option, None, IfSome, IsSomeAnd, get_or, nat_eq, bit_and, if◌then◌else◌}
use Rattle.std.specs.Int.{w32, w64, from_le_bytes}
use Rattle.std.specs.List.{range_with_len}
use Rattle.std.specs.List.Sorted.{IsStrictlyIncreasing}
use Rattle.dv_model.specs.declared.types.Current.{Current}
use Rattle.dv_model.specs.declared.types.Extension.{Extension}
use Rattle.dv_model.specs.declared.types.Mailbox.{Mailbox}
use Rattle.dv_model.specs.declared.types.Mark.{Mark}
use Rattle.dv_model.specs.declared.types.Row.{Row}
use Rattle.dv_model.specs.Mailboxes.{AreExtensions, last_modseq}
use Rattle.dv_model.specs.Names.{IsName}
use Rattle.dv_formats.specs.Snapshots.{AreBytes, HasFieldsOf, IsSnapshot, current_text, extension_text, keyword_text, row_size, row_text}

-- what is wrong with a text: its length in bytes, the byte of its version, the number of a check,
-- or the place of a record
pub data SnapshotFault : Type 0 where
  Short : ℕ → SnapshotFault
  Version : ℕ → SnapshotFault
  Counts : ℕ → SnapshotFault
  Order : ℕ → SnapshotFault

-- ---- what stands in a text

-- the number of the four bytes at a place
abbrev pub word_at : ℕ → List ℕ → ℕ
word_at at b = from_le_bytes w32 (take 4 (drop at b))

-- the byte behind the first
abbrev pub version_at : List ℕ → ℕ
version_at b = slice_index b 1

-- the highest modification sequence, which version 1 lacks
abbrev pub highest_at : List ℕ → ℕ
highest_at b = if nat_eq (version_at b) 1 then 1 else from_le_bytes w64 (take 8 (drop 68 b))

-- the place of the log that it names
abbrev pub mark_at : List ℕ → Mark
mark_at b = record { file_seq = word_at 36 b; offset = word_at 40 b }

-- where the zero bytes at the header's end begin
abbrev pub zeros_from : List ℕ → ℕ
zeros_from b = if nat_eq (version_at b) 1 then 68 else 76

-- the place of the record at k: records follow one another behind the tables
abbrev pub record_place : ℕ → List ℕ → ℕ
record_place k b = word_at 4 b + word_at 8 b * k

-- its bytes
abbrev pub record_at : ℕ → List ℕ → List ℕ
record_at k b = take (word_at 8 b) (drop (record_place k b) b)

-- its UID
abbrev pub uid_at : ℕ → List ℕ → ℕ
uid_at k b = word_at 0 (record_at k b)

-- its flags
abbrev pub flags_at : ℕ → List ℕ → ℕ
flags_at k b = slice_index (record_at k b) 4

-- the UID before it, or 0
abbrev pub uid_before : ℕ → List ℕ → ℕ
uid_before zero b = 0
uid_before (suc k) b = uid_at k b

-- how many records have the flag
abbrev pub records_with : ℕ → List ℕ → ℕ
records_with bit b = count_by (λ flags. not (nat_eq (bit_and flags bit) 0))
    (map (λ k. flags_at k b) (range_with_len 0 (word_at 32 b)))

-- ---- the tests of the header

-- it begins as a text of version 1 or 2
pub record IsKnown (b : List ℕ) : Type 0 where
  pub version : (1 ≤ version_at b) × (version_at b ≤ 2)
  pub text : take 4 b ≡ 201 ∷ version_at b ∷ 120 ∷ 0 ∷ []

-- the first byte that isn't the one of version 2
abbrev pub other_byte : List ℕ → ℕ
other_byte b =
    if not (nat_eq (slice_index b 0) 201) then slice_index b 0 else
    (if not (nat_eq (slice_index b 1) 2) then slice_index b 1 else
    (if not (nat_eq (slice_index b 2) 120) then slice_index b 2 else slice_index b 3))

-- what has to be zero is, and what may not be isn't
pub record HasNumbers (b : List ℕ) : Type 0 where
  pub zeros : (word_at 12 b ≡ 0) × (word_at 20 b ≡ 0)
  pub indexid : 1 ≤ word_at 16 b
  pub next_uid : 1 ≤ word_at 28 b
  pub highest : (1 ≤ highest_at b) × (highest_at b ≤ last_modseq)
  pub end : drop (zeros_from b) (take 120 b) ≡ replicate (120 - zeros_from b) 0

-- ---- the tests of the tables and of what is counted

-- names and extensions of a valid mailbox, as many as the header says, whose text ends where the
-- header says
pub record AreTables (names : List (List ℕ)) (es : List Extension) (b : List ℕ) : Type 0 where
  pub counted : (length names ≡ word_at 44 b) × (length es ≡ word_at 48 b)
  pub valid : All IsName names × AllPairs (λ x y. x ≢ y) names
  pub extensions : AreExtensions es
  pub fields : All HasFieldsOf es
  pub size : (120 ≤ word_at 4 b) × (word_at 4 b ≤ length b)
  pub text : drop 120 (take (word_at 4 b) b) ≡ flat_map keyword_text names ++ flat_map extension_text es

-- the mailbox of the header and these tables, yet without its rows and its current extension
abbrev pub head_of : List (List ℕ) → List Extension → List ℕ → Mailbox
head_of names es b = record {
  uid_validity = word_at 24 b;
  next_uid = word_at 28 b;
  rows = [];
  keywords = names;
  extensions = es;
  current = None;
  highest = highest_at b;
}

-- the current extension is none, or one of the table with a size up to its record size
pub record IsCurrent (es : List Extension) (current : Option Current) (b : List ℕ) : Type 0 where
  pub known : IfSome current (λ c. IsSomeAnd (slice_get es c.extension) (λ e. c.size ≤ e.record_size))
  pub text : take 8 (drop 52 b) ≡ current_text current

-- there is such a current extension
abbrev pub HasCurrent : Mailbox → List ℕ → Type 0
HasCurrent m b = (current : Option Current) × IsCurrent m.extensions current b

-- ---- the tests of the records

-- these bytes are of a row with any UID: padding is zero, no bit is past the keywords
pub record IsRecord (version : ℕ) (m : Mailbox) (row : Row) (b : List ℕ) : Type 0 where
  pub numbers : (row.uid < 2 ^ 32) × (row.flags < 256)
  pub keywords : IsStrictlyIncreasing row.keywords × All (λ k. k < length m.keywords) row.keywords
  pub parts : map length row.parts ≡ map (λ e. e.record_size) m.extensions
  pub modseq : (1 ≤ row.modseq) × (row.modseq ≤ m.highest)
  pub text : b ≡ row_text version m row

-- the records are of these rows
pub record AreRecords (m : Mailbox) (rows : List Row) (b : List ℕ) : Type 0 where
  pub counted : length rows ≡ word_at 32 b
  pub each : (k : ℕ) (d : Row) → k < length rows → IsRecord (version_at b) m (get_or rows k d) (record_at k b)

-- each record is of a row
abbrev pub HasRecords : Mailbox → List ℕ → Type 0
HasRecords m b = (rows : List Row) × AreRecords m rows b

-- the header counts the records that have the flags Seen and Deleted
abbrev pub HasFlagCounts : List ℕ → Type 0
HasFlagCounts b = (word_at 60 b ≡ records_with 8 b) × (word_at 64 b ≡ records_with 4 b)

-- a record's UID is above the one before, and below the next one that is given out
abbrev pub IsInOrder : ℕ → List ℕ → Type 0
IsInOrder k b = (uid_before k b < uid_at k b) × (uid_at k b < word_at 28 b)

-- the first record that isn't in order
pub record IsFirstUnordered (k : ℕ) (b : List ℕ) : Type 0 where
  pub below : k < word_at 32 b
  pub before : (j : ℕ) → j < k → IsInOrder j b
  pub here : IsInOrder k b → ⊥

-- ---- the faults

-- the test isn't passed and this is its fault, or it is passed and the fault is a later one
abbrev pub First : Type 0 → SnapshotFault → SnapshotFault → Type 0 → Type 0
First Passed own fault later = ((Passed → ⊥) × (fault ≡ own)) ⊎ (Passed × later)

-- the place is that of the first record out of order
abbrev pub IsOrderFault : SnapshotFault → List ℕ → Type 0
IsOrderFault fault b = (k : ℕ) × IsFirstUnordered k b × (fault ≡ Order (record_place k b))

-- behind the tables: the size of a record, the length of the text, the current extension, the
-- records, the flags' counts
abbrev pub IsRowFault : Mailbox → SnapshotFault → List ℕ → Type 0
IsRowFault m fault b =
    First (word_at 8 b ≡ row_size (version_at b) m) (Counts 3) fault
    (First (length b ≡ word_at 4 b + word_at 8 b * word_at 32 b) (Counts 4) fault
    (First (HasCurrent m b) (Counts 5) fault
    (First (HasRecords m b) (Counts 6) fault
    (First (HasFlagCounts b) (Counts 7) fault (IsOrderFault fault b)))))

-- behind the header: no tables are there, or the fault stands behind them
abbrev pub IsTableFault : SnapshotFault → List ℕ → Type 0
IsTableFault fault b =
    (((names : List (List ℕ)) (es : List Extension) → AreTables names es b → ⊥) × (fault ≡ Counts 2))
    ⊎ ((names : List (List ℕ)) × (es : List Extension) × AreTables names es b
    × IsRowFault (head_of names es b) fault b)

-- the first test that a text doesn't pass
abbrev pub IsFault : SnapshotFault → List ℕ → Type 0
IsFault fault b =
    First (120 ≤ length b) (Short (length b)) fault
    (First (IsKnown b) (Version (other_byte b)) fault
    (First (HasNumbers b) (Counts 1) fault (IsTableFault fault b)))

-- ---- what holds of them

-- a text has one fault at most
abbrev pub FaultIsOne : Type 0
FaultIsOne = (b : List ℕ) (one other : SnapshotFault) → IsFault one b → IsFault other b → one ≡ other

-- the text of a snapshot has none
abbrev pub SnapshotHasNoFault : Type 0
SnapshotHasNoFault =
    (version : ℕ) (m : Mailbox) (indexid : ℕ) (mark : Mark) (b : List ℕ) (fault : SnapshotFault)
    → IsSnapshot version m indexid mark b
    → IsFault fault b
    → ⊥

-- it can't be that bytes have no fault and are of no snapshot
abbrev pub FaultOrSnapshot : Type 0
FaultOrSnapshot =
    (b : List ℕ) → AreBytes b
    → ((fault : SnapshotFault) → IsFault fault b → ⊥)
    → ((version : ℕ) (m : Mailbox) (indexid : ℕ) (mark : Mark) → IsSnapshot version m indexid mark b → ⊥)
    → ⊥
