-- A session on its way to the end of the log, through the generations.
use Rattle.std.specs.Prelude.{◌≡◌, ℕ, List, [], ◌++◌, drop, length, Option, None, Some, unwrap_or}
use mathlib.Core.List.{IsPrefix}
use Rattle.atomic_table.specs.Seated.{TableId}
use Rattle.dv_model.specs.declared.types.Mailbox.{Mailbox}
use Rattle.dv_model.specs.Journals.{Log}
use Rattle.dv_model.specs.Mailboxes.{IsValid}
use Rattle.dv_front.specs.declared.notes.Note.{Note}
use Rattle.dv_front.specs.Ends.{PassView}
use Rattle.dv_front.specs.Notes.{AreGood, entries_of, text_of}
use Rattle.dv_front.specs.Rolls.{ListingView, table_at}
use Rattle.dv_feed.specs.Feeds.{mark_from}
use Rattle.dv_notes.specs.Logs.{mailbox_behind}
use Rattle.dv_generations.specs.Feeds.{Feed, IsShown, journal}
use Rattle.dv_member.specs.declared.batch.Ready.{Ready}
use Rattle.dv_member.specs.declared.mirror.Mirror.{Mirror}
use Rattle.dv_member.specs.declared.reaching.Reached.{Reached}
use Rattle.dv_member.specs.declared.reader.Reader.{Reader}
use Rattle.dv_member.specs.Batches.{Leads}

-- ---- words

-- a pass knows no fewer notes of its generation
pub record Grows (old new : PassView) : Type 0 where
  pub begins : IsPrefix old.notes new.notes
  pub good : AreGood new.generation new.notes
  pub now : new ≡ record old { notes = new.notes; taken = new.taken; sealed = new.sealed; loads = new.loads }

-- the leaf names the tables of all generations, those that it named first
pub record Knows (roll : TableId) (f : Feed) (old new : ListingView) : Type 0 where
  pub roll_is : new.table ≡ roll
  pub begins : IsPrefix old.items new.items
  pub all : length new.items ≡ length f.parts

-- it knows all notes of its generation, and has taken all of their words
pub record TakesAll (start : Log) (count : ℕ) (f : Feed) (number : ℕ) (old : PassView) (before : List ℕ) (new : PassView) (after : List ℕ) : Type 0 where
  pub shown : IsShown start count f number new
  pub taken : new.taken ≡ length (text_of new.notes)
  pub words : after ≡ before ++ drop old.taken (text_of new.notes)

-- ---- passes

-- a pass of this generation knows all notes of it, and has taken all of their words; a leaf names its table
pub record Arrives (start : Log) (count : ℕ) (f : Feed) (number : ℕ) (leaf : ListingView) (p : PassView) : Type 0 where
  pub shown : IsShown start count f number p
  pub taken : p.taken ≡ length (text_of p.notes)
  pub named : table_at leaf.items number ≡ Some p.table

-- the pass of a later generation than the first, where there is one
abbrev pub IsLast : Log → ℕ → Feed → ℕ → ℕ → ListingView → Option PassView → Type 0
IsLast start count f first number leaf None = number ≡ first
IsLast start count f first number leaf (Some p) = Arrives start count f number leaf p

-- ---- the end of the log

-- what was made ready makes of the session's mailbox the one behind these notes
pub record LeadsTo (start : Log) (notes : List Note) (m : Mirror) (ready : Ready) : Type 0 where
  pub after : Mailbox
  pub is : mailbox_behind start.start notes ≡ Some after
  pub valid : IsValid m.live.mailbox × IsValid after
  pub leads : Leads m after ready
  pub mark : ready.mark ≡ mark_from start.start_mark (entries_of notes)
  pub seen : ready.seen ≡ length notes

-- a session's own pass has taken all of its generation, and there is the newest generation's
pub record Reaches (start : Log) (count : ℕ) (f : Feed) (r : Reader) (m : Mirror) (reached : Reached) : Type 0 where
  pub own : Arrives start count f r.generation r.leaf r.pass
  pub newest : reached.generation ≡ length f.parts
  pub last : IsLast start count f r.generation reached.generation r.leaf reached.pass
  pub ends : LeadsTo start (journal f) m reached.ready

-- so its pass is that one
abbrev pub arrived : Reader → ℕ → Option PassView → Reader
arrived r number pass = record r { generation = number; pass = unwrap_or pass r.pass; words = [] }
