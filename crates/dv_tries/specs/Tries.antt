-- The writes that the disk failed, and what a folder gives of a log whose notes went on while they
-- were tried.
use Rattle.std.specs.Prelude.{◌≡◌, ◌⊎◌, ◌≤◌, ℕ, true, List, length, take, Any, Some}
use Rattle.dv_model.specs.declared.types.Command.{Command}
use Rattle.dv_model.specs.declared.types.Mailbox.{Mailbox}
use Rattle.dv_model.specs.declared.types.Mark.{Mark}
use Rattle.dv_model.specs.Journals.{Log, at, is_rotation_due, mark_of}
use Rattle.dv_model.specs.Views.{View}
use Rattle.dv_shelf.specs.Folders.{Folder}
use Rattle.dv_front.specs.declared.notes.Note.{Note}
use Rattle.dv_notes.specs.Logs.{log_of}
use Rattle.dv_writing.specs.Keeping.{Gives}
use Rattle.dv_writing.specs.Writes.{Write, log_with}
use Rattle.dv_plans.specs.Begins.{AtReading}
use Rattle.dv_store.specs.Commits.{write_at}
use Rattle.dv_serving.specs.Places.{next_file}

-- ---- tries

-- A write that the disk failed: how many notes there were then, the session, the command and the
-- view that its commit was given, and the reading of the clock for its message, where that tells.
pub record Try : Type 0 where
  pub place : ℕ
  pub author : ℕ
  pub command : Command
  pub view : View
  pub reading : ℕ

-- its write, where its message came then
abbrev pub write_by : Try → ℕ → Write
write_by t received = write_at t.author t.command t.view received

-- ---- what a folder gives of a log

-- the place behind the last entry
abbrev pub end_mark : Log → Mark
end_mark log = mark_of log (length log.entries)

-- the mailbox behind the last entry, at this place, with its messages and GUIDs
pub record GivesMailbox (log : Log) (mark : Mark) (c : Folder) : Type 0 where
  pub mailbox : Mailbox
  pub is_there : at log (length log.entries) ≡ Some mailbox
  pub gives : Gives log mailbox mark c

-- so it is at the place behind the last entry, or, behind a rotation, at the first place of the new
-- file
abbrev pub GivesLog : Log → Folder → Type 0
GivesLog log c =
    GivesMailbox log (end_mark log) c
    ⊎ ((is_rotation_due true (end_mark log) ≡ true)
    × GivesMailbox log (next_file (end_mark log)) c)

-- ---- what it gives of notes and tries

-- the log of the first k notes
abbrev pub log_at : Log → List Note → ℕ → Log
log_at start notes k = log_of start (take k notes)

-- it gives the first k notes
abbrev pub GivesAt : Log → List Note → ℕ → Folder → Type 0
GivesAt start notes k c = GivesLog (log_at start notes k) c

-- it gives this log with the group of a try; the message came at some reading, which is the clock's
-- where that tells
pub record GivesGroup (tells : Type 0) (log : Log) (t : Try) (c : Folder) : Type 0 where
  pub met : Mailbox
  pub was_there : at log (length log.entries) ≡ Some met
  pub dated : AtReading tells t.reading (λ received.
      let written : Log = log_with log (write_by t received) met in
      GivesMailbox written (end_mark written) c)

-- so it gives the notes that a try met
abbrev pub GivesTry : Type 0 → Log → List Note → Try → Folder → Type 0
GivesTry tells start notes t c =
    (t.place ≤ length notes) × GivesGroup tells (log_at start notes t.place) t c

-- a front of the notes, or that with the group of a try
abbrev pub MayGive : Type 0 → Log → List Note → List Try → Folder → Type 0
MayGive tells start notes tries c =
    ((k : ℕ) × (k ≤ length notes) × GivesAt start notes k c)
    ⊎ Any (λ (t : Try). GivesTry tells start notes t c) tries

-- all notes, or these with the group of a try behind which none was written
abbrev pub GivesLast : Type 0 → Log → List Note → List Try → Folder → Type 0
GivesLast tells start notes tries c =
    GivesLog (log_of start notes) c
    ⊎ Any (λ (t : Try). (t.place ≡ length notes) × GivesGroup tells (log_of start notes) t c) tries
