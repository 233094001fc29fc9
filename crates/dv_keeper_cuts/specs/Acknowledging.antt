-- What a power cut leaves of what sessions were answered.
use Rattle.std.specs.Prelude.{◌≡◌, ℕ, List, All, Some, slice_get}
use mathlib.Core.List.{IsPrefix}
use Rattle.dv_model.specs.declared.types.Command.{Command}
use Rattle.dv_model.specs.declared.types.Entry.{Entry}
use Rattle.dv_model.specs.Journals.{Log}
use Rattle.dv_model.specs.Sessions.{State}
use Rattle.dv_model.specs.Transcripts.{HasLeft, IsTurn, Turn}
use Rattle.dv_shelf.specs.Folders.{Folder}
use Rattle.dv_front.specs.declared.notes.Note.{Note}
use Rattle.dv_front.specs.Notes.{entries_of}
use Rattle.dv_notes.specs.Logs.{log_of}
use Rattle.dv_tries.specs.Durable.{IsDurable}
use Rattle.dv_member.specs.Members.{Member, notes_of}

-- This log keeps what a session was answered. Each entry that it has seen is there, at its place.
-- Each of its turns, over what it had seen then, is one over this log: so a write that was answered
-- with a mark is the entry behind what it met, or it had nothing to write. And where memory ran out
-- behind an entry, that entry is there.
pub record KeepsSession (start : Log) (base : ℕ) (log : Log) (s : Member) : Type 0 where
  pub entries : (k : ℕ) (e : Entry) → slice_get (entries_of (notes_of s)) k ≡ Some e
      → slice_get log.entries k ≡ Some e
  pub turns : (seen : List Note) (t : Turn) → IsPrefix seen (notes_of s)
      → IsTurn (log_of start seen) base s.number t → IsTurn log base s.number t
  pub left : (seen : List Note) (k : ℕ) (x : State) (c : Command) → IsPrefix seen (notes_of s)
      → HasLeft (log_of start seen) s.number k x c → HasLeft log s.number k x c

-- The folder opens to one log that begins with all notes, with their messages while they are there,
-- and keeps what each of these sessions was answered. The folder's calls had failed `base` times
-- before the run.
pub record IsAcknowledged (start : Log) (base : ℕ) (sessions : List Member) (c : Folder) : Type 0
  where
    pub notes : List Note
    pub durable : IsDurable start notes c
    pub kept : All (KeepsSession start base durable.log) sessions
