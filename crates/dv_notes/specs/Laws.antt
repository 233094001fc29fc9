-- What holds of logs by notes.
use Rattle.std.specs.Prelude.{◌≡◌, ℕ, true, List, [], ◌∷◌, ◌++◌, IsSome, Some, take}
use Rattle.dv_model.specs.declared.types.Command.{Command}
use Rattle.dv_model.specs.declared.types.Group.{Group}
use Rattle.dv_model.specs.declared.types.Mailbox.{Mailbox}
use Rattle.dv_model.specs.declared.types.Mark.{Mark}
use Rattle.dv_model.specs.Effects.{applied}
use Rattle.dv_model.specs.Journals.{IsEntry, IsSound, IsU32, Log, at, mark_behind, mark_of}
use Rattle.dv_model.specs.Sessions.{group_of}
use Rattle.dv_model.specs.Transcripts.{with_written}
use Rattle.dv_model.specs.Views.{View}
use Rattle.dv_validity.proofs.Logs.{Extends}
use Rattle.dv_front.specs.declared.notes.Note.{Note}
use Rattle.dv_feed.specs.Feeds.{mark_from}
use Rattle.dv_front.specs.Notes.{AreNotes, IsPlaced, entries_of}
use Rattle.dv_notes.specs.Logs.{AreNotesOf, IsGroupAt, log_of, mailbox_behind, note_of}

-- ---- notes

-- the first of good notes are good
abbrev pub FrontsAreGood : Type 0
FrontsAreGood = (m : Mailbox) (mark : Mark) (notes more : List Note) → AreNotes m mark (notes ++ more) → AreNotes m mark notes

-- each front of good notes has a mailbox
abbrev pub FrontsApply : Type 0
FrontsApply = (m : Mailbox) (mark : Mark) (notes : List Note) (k : ℕ) → AreNotes m mark notes → IsSome (mailbox_behind m (take k notes))

-- good notes with one more, which applies, ends at a place of 32 bits, and has a message of a UID that it gives out
abbrev pub NotesGoOn : Type 0
NotesGoOn = (m : Mailbox) (mark : Mark) (notes : List Note) (n : Note) (last after : Mailbox) → AreNotes m mark notes
    → mailbox_behind m notes ≡ Some last
    → IsEntry n.entry → IsU32 (mark_behind true (mark_from mark (entries_of notes)) n.entry.group).offset
    → applied last n.entry.group.records ≡ Some after → IsPlaced last.next_uid after.next_uid n.post
    → AreNotes m mark (notes ++ n ∷ [])

-- ---- the log of a start and notes

-- a write's note at the end gives exactly the log that the write gives
abbrev pub LogsGoOn : Type 0
LogsGoOn = (start : Log) (notes : List Note) (author : ℕ) (c : Command) (received : ℕ) (g : Group) (m : Mailbox)
    → log_of start (notes ++ note_of (log_of start notes) author c received g m ∷ []) ≡ with_written (log_of start notes) author c received g m

-- the log of good notes is sound
abbrev pub LogsAreSound : Type 0
LogsAreSound = (start : Log) (notes : List Note) → AreNotesOf start notes → IsSound (log_of start notes)

-- under more notes its entries, mailboxes, messages, marks, groups, refusals and answers stay
abbrev pub LogsExtend : Type 0
LogsExtend = (start : Log) (notes more : List Note) → AreNotesOf start (notes ++ more) → Extends (log_of start notes) (log_of start (notes ++ more))

-- the mailbox after k entries and their mark go by the first k notes
abbrev pub MailboxesByNotes : Type 0
MailboxesByNotes = (start : Log) (notes : List Note) (k : ℕ) → start.entries ≡ [] → at (log_of start notes) k ≡ mailbox_behind start.start (take k notes)

abbrev pub MarksByNotes : Type 0
MarksByNotes = (start : Log) (notes : List Note) (k : ℕ) → start.entries ≡ [] → start.rotates ≡ true → mark_of (log_of start notes) k ≡ mark_from start.start_mark (entries_of (take k notes))

-- ---- writes

-- what a command writes over the mailbox at the end is one good note more, whenever an appended message came
abbrev pub WritesAreGood : Type 0
WritesAreGood = (start : Log) (notes : List Note) (author : ℕ) (view : View) (c : Command) (received : ℕ) (m : Mailbox)
    → AreNotesOf start notes → start.rotates ≡ true → IsGroupAt (log_of start notes) author view c m
    → AreNotesOf start (notes ++ note_of (log_of start notes) author c received (group_of c view m (log_of start notes).guid) m ∷ [])
