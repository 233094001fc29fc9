-- The log of a start and the notes since: the entries with their messages and GUIDs.
use Rattle.std.specs.Prelude.{◌≡◌, ℕ, ◌≤◌, List, [], ◌∷◌, ◌++◌, length, flat_map, Option, Some, None, nat_eq, if◌then◌else◌}
use Rattle.dv_model.specs.declared.types.Command.{Command}
use Rattle.dv_model.specs.declared.types.Command.TheVariants as command
use Rattle.dv_model.specs.declared.types.Group.{Group}
use Rattle.dv_model.specs.declared.types.Mailbox.{Mailbox}
use Rattle.dv_model.specs.Effects.{applied}
use Rattle.dv_model.specs.Journals.{Log, Mail, Held, IsSound, IsU32, at, mark_behind, mark_of, new_guid}
use Rattle.dv_model.specs.Sessions.{IsCommand, group_of}
use Rattle.dv_model.specs.Views.{View}
use Rattle.dv_validity.specs.Entries.{HasUidLeft}
use Rattle.dv_front.specs.declared.notes.Note.{Note}
use Rattle.dv_front.specs.declared.notes.Post.{Post}
use Rattle.dv_front.specs.Notes.{AreNotes, entries_of}

-- ---- messages and GUIDs

-- the messages with that of an APPEND
abbrev pub posted : Option Post → (ℕ → Mail) → ℕ → Mail
posted None mail = mail
posted (Some p) mail = λ uid. if nat_eq uid p.uid then Held p.message else mail uid

-- the GUIDs with that of an appended message
abbrev pub named : Option Post → (ℕ → List ℕ) → ℕ → List ℕ
named None guid = guid
named (Some p) guid = λ uid. if nat_eq uid p.uid then p.guid else guid uid

-- the messages behind these notes
abbrev pub mail_by : (ℕ → Mail) → List Note → ℕ → Mail
mail_by mail [] = mail
mail_by mail (n ∷ notes) = mail_by (posted n.post mail) notes

-- the GUIDs behind these notes
abbrev pub guid_by : (ℕ → List ℕ) → List Note → ℕ → List ℕ
guid_by guid [] = guid
guid_by guid (n ∷ notes) = guid_by (named n.post guid) notes

-- ---- the log

-- the start with the notes' entries, messages and GUIDs
abbrev pub log_of : Log → List Note → Log
log_of start notes = record start {
  entries = start.entries ++ entries_of notes;
  mail = mail_by start.mail notes;
  guid = guid_by start.guid notes;
}

-- the mailbox behind these notes
abbrev pub mailbox_behind : Mailbox → List Note → Option Mailbox
mailbox_behind m notes = applied m (flat_map (λ e. e.group.records) (entries_of notes))

-- the notes are good behind a sound start that has no entries
pub record AreNotesOf (start : Log) (notes : List Note) : Type 0 where
  pub sound : IsSound start
  pub fresh : start.entries ≡ []
  pub good : AreNotes start.start start.start_mark notes

-- ---- what a command writes

-- the message of an APPEND over this mailbox
abbrev pub post_of : Log → Command → ℕ → Mailbox → Option Post
post_of log (command.Append flags keywords message) received m = Some (record {
  uid = m.next_uid;
  message = message;
  guid = new_guid log.indexid m.uid_validity m.next_uid received;
})
post_of log c received m = None

-- the group that a command wrote as one entry more, with its message where it appends one
abbrev pub note_of : Log → ℕ → Command → ℕ → Group → Mailbox → Note
note_of log author c received g m = record { entry = record { author = author; group = g }; post = post_of log c received m }

-- a command of its type over the mailbox at the log's end, whose group isn't empty and ends at a place of 32 bits
pub record IsGroupAt (log : Log) (author : ℕ) (view : View) (c : Command) (m : Mailbox) : Type 0 where
  pub is_there : at log (length log.entries) ≡ Some m
  pub author_is : IsU32 author
  pub command : IsCommand c
  pub uid : HasUidLeft c m
  pub some : 1 ≤ length (group_of c view m log.guid).records
  pub place : IsU32 (mark_behind log.rotates (mark_of log (length log.entries)) (group_of c view m log.guid)).offset
