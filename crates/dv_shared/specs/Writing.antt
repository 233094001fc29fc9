-- What a write leaves of the notes, and what comes of it.
use Rattle.std.specs.Prelude.{◌≡◌, ◌≤◌, ◌+◌, ℕ, true, List, [], ◌∷◌, ◌++◌, length, None, Some, Result, Ok, Err, ⊤}
use Rattle.dv_model.specs.declared.types.Command.{Command}
use Rattle.dv_model.specs.declared.types.Mailbox.{Mailbox}
use Rattle.dv_model.specs.declared.types.Reply.TheVariants as reply
use Rattle.dv_model.specs.Journals.{IsGuid, Log}
use Rattle.dv_model.specs.Sessions.{IsCommand, State as SessionState, group_of, is_append, is_write}
use Rattle.dv_model.specs.Transcripts.{Wrote, refused_at}
use Rattle.dv_model.specs.Views.{View}
use Rattle.dv_answer.specs.Refusing.{own_refusal}
use Rattle.dv_front.specs.declared.notes.Note.{Note}
use Rattle.dv_groups.specs.Groups.{HasFewKeywords}
use Rattle.dv_member.specs.Members.{Member}
use Rattle.dv_notes.specs.Logs.{log_of, note_of}
use Rattle.dv_plans.specs.declared.fault.StoreFault.{StoreFault}
use Rattle.dv_plans.specs.declared.fault.StoreFault.TheVariants as fault
use Rattle.dv_tries.specs.Commits.{MayCommit, with_records}
use Rattle.dv_tries.specs.Tries.{Try}

-- ---- a write

-- a write that a session with this view doesn't refuse by itself, with few keywords
abbrev pub MayServe : ℕ → Command → View → Type 0
MayServe author c view = MayCommit author c view × HasFewKeywords c

-- a write that this session doesn't refuse by itself
pub record MayWrite (s : Member) (c : Command) : Type 0 where
  pub command : IsCommand c
  pub few : HasFewKeywords c
  pub write : is_write c ≡ true
  pub allowed : own_refusal s.follower.state c ≡ None

-- ---- notes and tries

-- The notes have one more where the command's group over the mailbox that it met has a record, of
-- its author, with the message and GUID that it appends. Where the folder tells its files, the
-- GUIDs in the group are the log's, and where the clock tells the message came at its reading.
pub record IsNoted (honest tells : Type 0) (log : Log) (t : Try) (m : Mailbox)
    (notes now : List Note) : Type 0 where
  pub guid : ℕ → List ℕ
  pub guids : (uid : ℕ) → IsGuid (guid uid)
  pub received : ℕ
  pub is : now ≡ with_records notes
      (note_of log t.author t.command received (group_of t.command t.view m guid) m)
      (group_of t.command t.view m guid).records
  pub known : honest
      → group_of t.command t.view m guid ≡ group_of t.command t.view m log.guid
  pub dated : honest → tells → is_append t.command ≡ true
      → 1 ≤ length (group_of t.command t.view m guid).records → received ≡ t.reading

-- the tries have one more where the disk failed it
abbrev pub with_fault : List Try → Try → StoreFault → List Try
with_fault tries t (fault.Disk faults) = tries ++ t ∷ []
with_fault tries t e = tries

module _ {A : Type 0} where
  -- so it is behind Ok; behind an error they are as before
  abbrev pub NotesBehind : Type 0 → Type 0 → Log → Try → Mailbox → List Note → List Note
      → Result A StoreFault → Type 0
  NotesBehind honest tells log t m notes now (Ok x) = IsNoted honest tells log t m notes now
  NotesBehind honest tells log t m notes now (Err e) = now ≡ notes

  abbrev pub with_failed : List Try → Try → Result A StoreFault → List Try
  with_failed tries t (Ok x) = tries
  with_failed tries t (Err e) = with_fault tries t e

  -- nothing was written
  abbrev pub WroteNothing : List Note → List Note → Result A StoreFault → Type 0
  WroteNothing notes now (Ok x) = now ≡ notes
  WroteNothing notes now (Err (fault.Disk faults)) = ⊥
  WroteNothing notes now (Err e) = ⊤

  -- ---- what comes of it

  -- By the session rules: a limit is told exactly where it is met; else the disk failed it, whose
  -- group has a record, or its group is the entry behind all that it met, or it has none to write.
  abbrev pub HasOutcome : Log → ℕ → SessionState → Command → Mailbox → List Note → List Note
      → Result A StoreFault → Type 0
  HasOutcome start author x c m notes now (Ok done) =
      (refused_at (log_of start notes) (length notes) x c m ≡ None)
      × Wrote (log_of start now) author (length notes) (length now) x.view c m
  HasOutcome start author x c m notes now (Err (fault.Disk faults)) =
      (refused_at (log_of start notes) (length notes) x c m ≡ None)
      × (1 ≤ length (group_of c x.view m (log_of start notes).guid).records)
  HasOutcome start author x c m notes now (Err fault.UidsUsedUp) =
      refused_at (log_of start notes) (length notes) x c m ≡ Some reply.UidsUsedUp
  HasOutcome start author x c m notes now (Err (fault.TooLong bytes)) =
      refused_at (log_of start notes) (length notes) x c m ≡ Some (reply.TooLong bytes)
  HasOutcome start author x c m notes now (Err fault.NoMemory) = ⊤

  -- the failures of the disk that were told
  abbrev pub refused_behind : ℕ → Result A StoreFault → ℕ
  refused_behind refused (Err (fault.Disk faults)) = refused + 1
  refused_behind refused result = refused
