-- A log: where it starts, the groups written since, and the messages (Dovecot's transaction log).
use Rattle.std.specs.Prelude.{◌≡◌, ◌⊎◌, ℕ, ◌+◌, ◌^◌, ◌<◌, ◌≤◌, Bool, ◌&&◌, List, ◌++◌, length, take, flat_map, fold, All, Option, IsSome, nat_le, nat_lt, if◌then◌else◌}
use Rattle.std.specs.Int.{w32, to_be_bytes}
use Rattle.dv_model.specs.declared.types.Entry.{Entry}
use Rattle.dv_model.specs.declared.types.Group.{Group}
use Rattle.dv_model.specs.declared.types.Mailbox.{Mailbox}
use Rattle.dv_model.specs.declared.types.Mark.{Mark}
use Rattle.dv_model.specs.Effects.{applied}
use Rattle.dv_model.specs.Mailboxes.{IsValid}
use Rattle.dv_model.specs.Spelling.{IsRecord, group_text}

-- the message of a UID: its bytes, or a file that is missing or damaged
pub data Mail : Type 0 where
  Held : List ℕ → Mail
  Damaged : Mail

-- what a session's answers are read from: the start, the entries since, and each message with its GUID
pub record Log : Type 0 where
  pub start : Mailbox
  pub start_mark : Mark
  -- a long file is rotated before the next group; else the log stays one file
  pub rotates : Bool
  pub entries : List Entry
  -- the number that names the mailbox's files
  pub indexid : ℕ
  pub mail : ℕ → Mail
  pub guid : ℕ → List ℕ

-- the mailbox after the first k entries
abbrev pub at : Log → ℕ → Option Mailbox
at log k = applied log.start (flat_map (λ e. e.group.records) (take k log.entries))

-- ---- places of the log

-- a file that ends here or later is rotated before the next group, but for the last sequence number
abbrev pub rotate_at : ℕ
rotate_at = 131072

-- the largest number of 32 bits
abbrev pub last_file_seq : ℕ
last_file_seq = 4294967295

-- the header of a new file
abbrev pub header_size : ℕ
header_size = 40

-- the next group begins a new file
abbrev pub is_rotation_due : Bool → Mark → Bool
is_rotation_due rotates mark = rotates && nat_le rotate_at mark.offset && nat_lt mark.file_seq last_file_seq

-- the place behind a group: it stands behind the log's end, or at the front of a new file
abbrev pub mark_behind : Bool → Mark → Group → Mark
mark_behind rotates mark g =
    if is_rotation_due rotates mark
    then record { file_seq = mark.file_seq + 1; offset = header_size + length (group_text g) }
    else record mark { offset = mark.offset + length (group_text g) }

-- the place behind the first k entries
abbrev pub mark_of : Log → ℕ → Mark
mark_of log k = fold (λ mark e. mark_behind log.rotates mark e.group) log.start_mark (take k log.entries)

-- one place lies before another
abbrev pub IsBefore : Mark → Mark → Type 0
IsBefore a b = (a.file_seq < b.file_seq) ⊎ ((a.file_seq ≡ b.file_seq) × (a.offset < b.offset))

-- ---- sound logs

-- a number of 32 bits
abbrev pub IsU32 : ℕ → Type 0
IsU32 n = n < 2 ^ 32

-- numbers of 8 bits
abbrev pub AreByteValues : List ℕ → Type 0
AreByteValues bytes = All (λ b. b < 2 ^ 8) bytes

-- an entry is one or more records that have spellings of bytes, by a session with a number of 32 bits
pub record IsEntry (e : Entry) : Type 0 where
  pub author : IsU32 e.author
  pub some : 1 ≤ length e.group.records
  pub records : All IsRecord e.group.records
  pub bytes : AreByteValues (group_text e.group)

-- the 16 bytes of a GUID
pub record IsGuid (guid : List ℕ) : Type 0 where
  pub size : length guid ≡ 16
  pub bytes : AreByteValues guid

-- each extension's reset number is of 32 bits, as its type has it
abbrev pub HasResets : Mailbox → Type 0
HasResets m = All (λ e. IsU32 e.reset_id) m.extensions

-- A sound log starts with a valid mailbox at a place, has entries of records, each prefix has a mailbox, and numbers are
-- those of their types.
pub record IsSound (log : Log) : Type 0 where
  pub start : IsValid log.start × HasResets log.start
  pub start_mark : IsU32 log.start_mark.file_seq × IsU32 log.start_mark.offset
  pub indexid : IsU32 log.indexid
  pub guids : (uid : ℕ) → IsGuid (log.guid uid)
  pub entries : All IsEntry log.entries
  pub mailboxes : (k : ℕ) → k ≤ length log.entries → IsSome (at log k)

-- the GUID that an appended message is given: which mailbox, which UID, and when it came
abbrev pub new_guid : ℕ → ℕ → ℕ → ℕ → List ℕ
new_guid indexid validity uid received = to_be_bytes w32 indexid ++ to_be_bytes w32 validity ++ to_be_bytes w32 uid ++ to_be_bytes w32 received
