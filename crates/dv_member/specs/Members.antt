-- What contracts see of a session, and what is so of each.
use Rattle.std.specs.Prelude.{◌≡◌, ℕ, ◌≤◌, Bool, true, false, List, [], ◌++◌, length, take, Some}
use Rattle.atomic_table.specs.Seated.{TableId}
use Rattle.dv_model.specs.declared.types.Mailbox.{Mailbox}
use Rattle.dv_model.specs.Journals.{IsSound, Log, at}
use Rattle.dv_front.specs.declared.notes.Generation.{Generation}
use Rattle.dv_front.specs.declared.notes.Note.{Note}
use Rattle.dv_front.specs.Ends.{PassView}
use Rattle.dv_front.specs.Rolls.{ListingView}
use Rattle.dv_notes.specs.Logs.{AreNotesOf, log_of}
use Rattle.dv_answer.specs.Following.{Follower, IsAbreast}
use Rattle.dv_generations.specs.Feeds.{origin_of}

-- what a session knows of the words of its generation, as of its last load: the notes, whether they are all, and how often it
-- loaded their number
pub record Front : Type 0 where
  pub table : TableId
  pub generation : Generation
  pub notes : List Note
  pub sealed : Bool
  pub loads : ℕ

-- that of a pass
abbrev pub as_front : PassView → Front
as_front p = record { table = p.table; generation = p.generation; notes = p.notes; sealed = p.sealed; loads = p.loads }

-- all notes that are known: those before the generation, and its own
abbrev pub known_in : Front → List Note
known_in f = f.generation.base ++ f.notes

-- a session
pub record Member : Type 0 where
  -- its number, as an author of entries
  pub number : ℕ
  pub front : Front
  -- the tables of the generations, as far as it knows them
  pub tables : ListingView
  -- how many notes it has seen, of those that it knows
  pub seen : ℕ
  -- what it was told, and the UIDs that were touched since
  pub follower : Follower
  -- the mailbox behind what it has seen
  pub live : Mailbox
  -- it has seen all that was published, at some moment since its last turn
  pub caught_up : Bool
  -- its last load found the seal of its generation, and it hasn't caught up since
  pub knows_seal : Bool
  -- memory ran out behind a write of its own: it is only closed
  pub spent : Bool
  -- how many of its commands were answered with a mark
  pub turns : ℕ
  -- how often it caught up under the lock
  pub holds : ℕ
  -- how many entries it wrote
  pub wrote : ℕ
  -- how many of its commands a failure of the disk answered
  pub refused : ℕ

-- the notes that it has seen
abbrev pub notes_of : Member → List Note
notes_of s = take s.seen (known_in s.front)

-- the log that it has seen
abbrev pub log_seen : Log → Member → Log
log_seen start s = log_of start (notes_of s)

-- ---- what is so of each

-- where a keeper's log starts: soundly, without entries, and its long files are rotated
pub record IsStart (start : Log) : Type 0 where
  pub sound : IsSound start
  pub fresh : start.entries ≡ []
  pub rotates : start.rotates ≡ true

-- its mailbox is that of the log that it has seen, and it keeps up with that
pub record Lives (start : Log) (s : Member) : Type 0 where
  pub live : at (log_seen start s) s.seen ≡ Some s.live
  pub told : s.follower.state.told ≤ s.seen
  pub abreast : IsAbreast s.live s.follower

-- what it knows are good notes from the start on, and it has seen the first of them
pub record IsSession (start : Log) (count : ℕ) (s : Member) : Type 0 where
  pub start_is : IsStart start
  pub origin : s.front.generation.origin ≡ origin_of start
  pub count_is : s.front.generation.start_count ≡ count
  pub good : AreNotesOf start (known_in s.front)
  pub seen : length (notes_of s) ≡ s.seen
  pub lives : s.spent ≡ false → Lives start s
