-- What stays true of a session's parts.
use Rattle.std.specs.Prelude.{◌≡◌, ℕ, ◌≤◌, Bool, false, List, ◌++◌, drop, length, take, Some}
use Rattle.atomic_table.specs.Seated.{TableId}
use Rattle.dv_model.specs.Journals.{Log}
use Rattle.dv_front.specs.declared.notes.Note.{Note}
use Rattle.dv_front.specs.Ends.{PassView}
use Rattle.dv_front.specs.Notes.{AreGood, entries_of, text_of}
use Rattle.dv_front.specs.Rolls.{table_at}
use Rattle.dv_feed.specs.Feeds.{mark_from}
use Rattle.dv_notes.specs.Logs.{mailbox_behind}
use Rattle.dv_answer.specs.Following.{IsAbreast}
use Rattle.dv_generations.specs.Feeds.{origin_of}
use Rattle.dv_member.specs.declared.mirror.Mirror.{Mirror}
use Rattle.dv_member.specs.declared.reader.Reader.{Reader}
use Rattle.dv_member.specs.Members.{IsStart}

-- all notes that a pass knows
abbrev pub all_of : PassView → List Note
all_of p = p.generation.base ++ p.notes

-- its pass is that of its generation, whose table its leaf names
pub record IsReader (roll : TableId) (start : Log) (count : ℕ) (r : Reader) : Type 0 where
  pub number : r.pass.generation.number ≡ r.generation
  pub origin : r.pass.generation.origin ≡ origin_of start
  pub count_is : r.pass.generation.start_count ≡ count
  pub good : AreGood r.pass.generation r.pass.notes
  pub roll_is : r.leaf.table ≡ roll
  pub named : table_at r.leaf.items r.generation ≡ Some r.pass.table

-- the words of what isn't seen are those that were taken and aren't applied, and then those that aren't taken
pub record HasTaken (words : List ℕ) (p : PassView) (seen : ℕ) : Type 0 where
  pub taken : p.taken ≤ length (text_of p.notes)
  pub rest : text_of (drop seen (all_of p)) ≡ words ++ drop p.taken (text_of p.notes)

-- the mailbox is that behind these notes, with the place there, and what was told is no more than they
pub record IsMirror (start : Log) (notes : List Note) (m : Mirror) : Type 0 where
  pub seen : m.seen ≡ length notes
  pub live : mailbox_behind start.start notes ≡ Some m.live.mailbox
  pub mark : m.mark ≡ mark_from start.start_mark (entries_of notes)
  pub abreast : IsAbreast m.live.mailbox m.session
  pub told : m.session.state.told ≤ m.seen
  pub told_mark : m.told_mark ≡ mark_from start.start_mark (entries_of (take m.session.state.told notes))

-- a session that isn't spent
pub record Follows (start : Log) (r : Reader) (m : Mirror) : Type 0 where
  pub took : HasTaken r.words r.pass m.seen
  pub mirror : IsMirror start (take m.seen (all_of r.pass)) m

-- any session
pub record IsMember (roll : TableId) (start : Log) (count : ℕ) (r : Reader) (m : Mirror) (spent : Bool) : Type 0 where
  pub start_is : IsStart start
  pub reader : IsReader roll start count r
  pub within : m.seen ≤ length (all_of r.pass)
  pub follows : spent ≡ false → Follows start r m
