-- What each folder that a crash may leave has of the notes that were published.
use Rattle.std.specs.Prelude.{◌≡◌, ◌<◌, List, ◌∷◌, ◌++◌, length, Contains, Some}
use Rattle.dv_model.specs.declared.types.Mailbox.{Mailbox}
use Rattle.dv_model.specs.declared.types.Mark.{Mark}
use Rattle.dv_model.specs.declared.types.Row.{Row}
use Rattle.dv_model.specs.Journals.{Held, Log, at}
use Rattle.dv_validity.proofs.Logs.{Extends}
use Rattle.dv_shelf.specs.Folders.{Folder}
use Rattle.dv_openings.specs.Openings.{Finds, IsFound}
use Rattle.dv_front.specs.declared.notes.Note.{Note}
use Rattle.dv_front.specs.declared.notes.Post.{Post}
use Rattle.dv_notes.specs.Logs.{log_of}
use Rattle.dv_files.specs.Reading.{guid_at, mail_at}
use Rattle.dv_writing.specs.Keeping.{HasMessage}

-- the message file of a note's UID gives its message and GUID
pub record HasPost (p : Post) (c : Folder) : Type 0 where
  pub held : mail_at c p.uid ≡ Held p.message
  pub named : guid_at c p.uid ≡ p.guid

-- The folder opens to the mailbox at the end of a log that begins with all notes. While a message
-- that a note brought is there, so is its file, with its message and GUID; and while a message of
-- the start is there, its file gives what the start has of it.
pub record IsDurable (start : Log) (notes : List Note) (c : Folder) : Type 0 where
  pub log : Log
  pub goes_on : Extends (log_of start notes) log
  pub mailbox : Mailbox
  pub is_there : at log (length log.entries) ≡ Some mailbox
  pub mark : Mark
  pub opens : IsFound c (Finds mailbox mark)
  pub posts : (front back : List Note) (n : Note) (p : Post) (row : Row)
      → notes ≡ front ++ n ∷ back → n.post ≡ Some p
      → Contains mailbox.rows row → row.uid ≡ p.uid → HasPost p c
  pub starts : (row : Row) → Contains mailbox.rows row → row.uid < start.start.next_uid
      → HasMessage start row.uid c
