-- What contracts see under the lock.
use Rattle.std.specs.Prelude.{ℕ, List}
use Rattle.dv_front.specs.declared.notes.Note.{Note}
use Rattle.dv_generations.specs.Feeds.{Feed, journal}
use Rattle.dv_store.specs.States.{State}
use Rattle.dv_tries.specs.Tries.{Try}

-- the folder's store; the notes that were published, in their generations; how many they are; and
-- the writes that the disk failed
pub record Kept (S C : Type 0) : Type 0 where
  pub store : State S C
  pub feed : Feed
  pub count : ℕ
  pub tries : List Try

-- that, and how many commands a failure of the disk answered
pub record Locked (S C : Type 0) : Type 0 where
  pub kept : Kept S C
  pub refused : ℕ

-- all notes that were published
abbrev pub notes_in : {S C : Type 0} → Kept S C → List Note
notes_in k = journal k.feed
