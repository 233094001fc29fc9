-- What a command writes is an entry of a sound log, and what entries leave of a mailbox.
use Rattle.std.specs.Prelude.{◌≡◌, ℕ, ◌<◌, ◌≤◌, true, List, length, All, IsSome, None, Some}
use Rattle.dv_model.specs.declared.types.Command.{Command}
use Rattle.dv_model.specs.declared.types.Entry.{Entry}
use Rattle.dv_model.specs.declared.types.Group.{Group}
use Rattle.dv_model.specs.declared.types.Mailbox.{Mailbox}
use Rattle.dv_model.specs.declared.types.Reply.{Reply}
use Rattle.dv_model.specs.Effects.{applied}
use Rattle.dv_model.specs.Journals.{HasResets, IsEntry, IsGuid, IsSound, IsU32, Log, at}
use Rattle.dv_model.specs.Mailboxes.{IsValid}
use Rattle.dv_model.specs.Sessions.{IsCommand, State, end_of_uids, group_of, is_append}
use Rattle.dv_model.specs.Transcripts.{Line, Runs, refused_at, with_written}
use Rattle.dv_model.specs.Views.{View}
use Rattle.dv_validity.specs.Laws.{HasBytes, IsInRange}

-- ---- what a command writes

-- an APPEND finds a UID left
abbrev pub HasUidLeft : Command → Mailbox → Type 0
HasUidLeft c m = is_append c ≡ true → m.next_uid < end_of_uids

-- a command of its type writes nothing or an entry, whatever its session's view
abbrev pub GroupIsEntry : Type 0
GroupIsEntry = (c : Command) (view : View) (m : Mailbox) (guid : ℕ → List ℕ) (author : ℕ)
    → IsCommand c → IsValid m → HasResets m → ((uid : ℕ) → IsGuid (guid uid)) → IsU32 author → HasUidLeft c m
    → 1 ≤ length (group_of c view m guid).records
    → IsEntry (record { author = author; group = group_of c view m guid })

-- its records apply to the mailbox that it met
abbrev pub GroupApplies : Type 0
GroupApplies = (c : Command) (view : View) (m : Mailbox) (guid : ℕ → List ℕ) → IsCommand c → IsSome (applied m (group_of c view m guid).records)

-- ---- what entries leave

-- each record of the group leaves a valid mailbox of a valid one
abbrev pub AreInRange : Group → Type 0
AreInRange g = All (λ r. IsInRange r.body) g.records

-- the records of an entry are in range
abbrev pub EntryIsInRange : Type 0
EntryIsInRange = (e : Entry) → IsEntry e → All (λ r. HasBytes r.body) e.group.records × AreInRange e.group

-- an entry leaves a valid mailbox of a valid one
abbrev pub EntryKeepsValid : Type 0
EntryKeepsValid = (m n : Mailbox) (e : Entry) → IsValid m → IsEntry e → applied m e.group.records ≡ Some n → IsValid n

-- and each extension's reset number stays one of 32 bits
abbrev pub EntryKeepsResets : Type 0
EntryKeepsResets = (m n : Mailbox) (e : Entry) → HasResets m → IsEntry e → applied m e.group.records ≡ Some n → HasResets n

-- ---- sound logs go on

-- each prefix of a sound log has a valid mailbox
abbrev pub SoundLogsAreValid : Type 0
SoundLogsAreValid = (log : Log) (k : ℕ) (m : Mailbox) → IsSound log → at log k ≡ Some m → IsValid m × HasResets m

-- a write that is allowed at the log's end
pub record IsWriteAt (log : Log) (author : ℕ) (x : State) (c : Command) (m : Mailbox) : Type 0 where
  pub is_there : at log (length log.entries) ≡ Some m
  pub author_is : IsU32 author
  pub command : IsCommand c
  pub allowed : refused_at log (length log.entries) x c m ≡ None
  pub some : 1 ≤ length (group_of c x.view m log.guid).records

-- the log with its group as one entry more is sound, whenever an appended message came
abbrev pub SoundLogsGoOn : Type 0
SoundLogsGoOn = (log : Log) (author : ℕ) (x : State) (c : Command) (m : Mailbox) (received : ℕ) → IsSound log → IsWriteAt log author x c m
    → IsSound (with_written log author c received (group_of c x.view m log.guid) m)

-- the lines so far stay answered in it: its message has a UID that none of them saw
abbrev pub RunsStayWritten : Type 0
RunsStayWritten = (log : Log) (author : ℕ) (x : State) (c : Command) (m : Mailbox) (received base : ℕ) (states : ℕ → State) (met : ℕ) (lines : List Line) (replies : List (List Reply)) (after : ℕ → State) (q : ℕ)
    → IsSound log → IsWriteAt log author x c m
    → q ≤ length log.entries → Runs log base states met lines replies after q
    → Runs (with_written log author c received (group_of c x.view m log.guid) m) base states met lines replies after q
