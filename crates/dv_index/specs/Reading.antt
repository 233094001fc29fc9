-- What a reader of a snapshot answers.
use Rattle.std.specs.Prelude.{◌≡◌, ◌≢◌, ℕ, ◌-◌, ◌*◌, ◌/◌, ◌%◌, ◌^◌, ◌<◌, ◌≤◌, List, [], ◌++◌, length, drop, map, flat_map, replicate, count_by, not, nat_eq, bit_and, take, All, AllPairs, codes, Result, Ok, Err, ⊤, if◌then◌else◌}
use Rattle.std.specs.Int.{w64, to_le_bytes}
use Rattle.std.specs.List.Sorted.{IsStrictlyIncreasing}
use Rattle.dv_model.specs.declared.types.Extension.{Extension}
use Rattle.dv_model.specs.declared.types.Mailbox.{Mailbox}
use Rattle.dv_model.specs.declared.types.Row.{Row}
use Rattle.dv_model.specs.Names.{IsName}
use Rattle.dv_formats.specs.Snapshots.{HasFieldsOf, IsSnapshot, extension_text, filled, keyword_bits, keyword_text}
use Rattle.dv_formats.specs.SnapshotFaults.{AreTables, HasFlagCounts, HasNumbers, IsCurrent, IsInOrder, IsKnown, IsRecord, SnapshotFault, head_of, mark_at, record_at, version_at, word_at, zeros_from}
use Rattle.dv_formats.specs.SnapshotFaults as faults
use Rattle.dv_index.specs.declared.fault.IndexEnd.{IndexEnd}
use Rattle.dv_index.specs.declared.fault.IndexEnd.TheVariants.{Fault, NoMemory}
use Rattle.dv_index.specs.declared.fault.IndexFault.{IndexFault}
use Rattle.dv_index.specs.declared.fault.IndexFault.TheVariants.{Short, Version, Counts, Order}

-- the fault as the format names it
abbrev pub fault_of : IndexFault → SnapshotFault
fault_of (Short have) = faults.Short have
fault_of (Version byte) = faults.Version byte
fault_of (Counts check) = faults.Counts check
fault_of (Order at) = faults.Order at

-- where it isn't for want of memory, the fault comes only with this
abbrev pub OnEnd : IndexEnd → (SnapshotFault → Type 0) → Type 0
OnEnd NoMemory P = ⊤
OnEnd (Fault f) P = P (fault_of f)

-- a fault comes only with this
abbrev pub OnFault : {A : Type 0} → Result A IndexEnd → (SnapshotFault → Type 0) → Type 0
OnFault (Ok x) P = ⊤
OnFault (Err e) P = OnEnd e P

-- the failed check comes only with this
abbrev pub OnCheck : {A : Type 0} → Result A IndexEnd → ℕ → Type 0 → Type 0
OnCheck r check P = OnFault r (λ f. (f ≡ faults.Counts check) × P)

-- this answer, unless memory ran out
abbrev pub Answers : {A : Type 0} → Result A IndexEnd → Result A IndexEnd → Type 0
Answers (Err NoMemory) answer = ⊤
Answers r answer = r ≡ answer

-- the tests of the header are passed
pub record HasHeader (b : List ℕ) : Type 0 where
  pub long : 120 ≤ length b
  pub known : IsKnown b
  pub numbers : HasNumbers b

-- the bytes at the header's end are zero
abbrev pub HasZeroEnd : List ℕ → Type 0
HasZeroEnd b = drop (zeros_from b) (take 120 b) ≡ replicate (120 - zeros_from b) 0

-- ---- the tables

-- so many distinct names begin the bytes
pub record AreNames (count : ℕ) (names : List (List ℕ)) (rest b : List ℕ) : Type 0 where
  pub counted : length names ≡ count
  pub valid : All IsName names × AllPairs (λ x y. x ≢ y) names
  pub text : b ≡ flat_map keyword_text names ++ rest

-- each number of an extension fits its field
pub record IsText (e : Extension) : Type 0 where
  pub fields : HasFieldsOf e
  pub sizes : (length e.name < 2 ^ 16) × (length e.header < 2 ^ 32)

-- the bytes are the texts of so many extensions
pub record AreTexts (count : ℕ) (es : List Extension) (b : List ℕ) : Type 0 where
  pub counted : length es ≡ count
  pub each : All IsText es
  pub text : b ≡ flat_map extension_text es

-- the name isn't `keywords` and has 1 to 255 bytes, and the header has at most 65,536
pub record IsAllowed (e : Extension) : Type 0 where
  pub name : (1 ≤ length e.name) × (length e.name ≤ 255) × (e.name ≢ codes "keywords")
  pub header : length e.header ≤ 65536

-- ---- the records

-- a version and tables by which records are read
pub record IsShaped (version : ℕ) (head : Mailbox) : Type 0 where
  pub known : (1 ≤ version) × (version ≤ 2)
  pub names : length head.keywords < 2 ^ 32
  pub extensions : length head.extensions ≤ 16
  pub highest : 1 ≤ head.highest

-- a bit is set behind those of so many keywords
abbrev pub HasBitPast : ℕ → List ℕ → Type 0
HasBitPast names bits = (names % 32 ≢ 0) × (word_at (4 * (names / 32)) bits / 2 ^ (names % 32) ≢ 0)

-- the bits are of these places among so many keywords
pub record ArePlaces (names : ℕ) (places bits : List ℕ) : Type 0 where
  pub keywords : IsStrictlyIncreasing places × All (λ k. k < names) places
  pub text : bits ≡ keyword_bits names places

-- the bytes are one part for each extension
pub record AreParts (es : List Extension) (parts : List (List ℕ)) (b : List ℕ) : Type 0 where
  pub sizes : map length parts ≡ map (λ e. e.record_size) es
  pub text : b ≡ flat_map filled parts

-- a record has this modification sequence, which version 1 lacks, and then these bytes
pub record HasModseq (version highest modseq : ℕ) (rest record_text : List ℕ) : Type 0 where
  pub bounds : (1 ≤ modseq) × (modseq ≤ highest)
  pub text : drop 8 record_text ≡ (if nat_eq version 1 then [] else to_le_bytes w64 modseq) ++ rest

-- the header counts these rows that have the flags Seen and Deleted
abbrev pub HasCountsOf : List Row → List ℕ → Type 0
HasCountsOf rows b =
    (word_at 60 b ≡ count_by (λ row. not (nat_eq (bit_and row.flags 8) 0)) rows)
    × (word_at 64 b ≡ count_by (λ row. not (nat_eq (bit_and row.flags 4) 0)) rows)

-- the text is of this mailbox
abbrev pub IsTextOf : Mailbox → List ℕ → Type 0
IsTextOf m b = IsSnapshot (version_at b) m (word_at 16 b) (mark_at b) b
