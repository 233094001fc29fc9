-- What a commit leaves of notes and tries. The records take what a shelf shows.
use Rattle.std.specs.Prelude.{◌≡◌, ◌⊎◌, ℕ, true, List, [], ◌∷◌, ◌++◌, None, Result, Ok, Err}
use Rattle.dv_model.specs.declared.types.Command.{Command}
use Rattle.dv_model.specs.declared.types.Record.{Record}
use Rattle.dv_model.specs.Journals.{IsU32, Log}
use Rattle.dv_model.specs.Sessions.{IsCommand, State as SessionState, is_write}
use Rattle.dv_model.specs.Views.{View}
use Rattle.dv_shelf.specs.Crashes.{LeavesOnly}
use Rattle.dv_shelf.specs.Sees.{SeesFolder}
use Rattle.dv_chain.specs.Openings.{OnlyLooks}
use Rattle.dv_answer.specs.Refusing.{own_refusal}
use Rattle.dv_front.specs.declared.notes.Note.{Note}
use Rattle.dv_notes.specs.Logs.{log_of, note_of}
use Rattle.dv_writing.specs.Debts.{Debt}
use Rattle.dv_plans.specs.declared.fault.StoreFault.{StoreFault}
use Rattle.dv_plans.specs.declared.fault.StoreFault.TheVariants as fault
use Rattle.dv_plans.specs.Begins.{AtReading, received_at, turns}
use Rattle.dv_store.specs.declared.receipt.Receipt.{Receipt}
use Rattle.dv_store.specs.Commits.{Commits, CommitsQuietly, IsUnwritten, write_at}
use Rattle.dv_store.specs.Rest.{IsAtRest}
use Rattle.dv_store.specs.States.{State}
use Rattle.dv_tries.specs.Standing.{RestsBehind}
use Rattle.dv_tries.specs.Tries.{GivesLast, Try}

-- ---- a write

-- a session with this view, which has selected the mailbox
abbrev pub selected_with : View → SessionState
selected_with view = record { selected = true; view = view; told = 0 }

-- a write of its type, by a session with a number of 32 bits, which doesn't refuse it by itself
pub record MayCommit (author : ℕ) (c : Command) (view : View) : Type 0 where
  pub author_is : IsU32 author
  pub command : IsCommand c
  pub write : is_write c ≡ true
  pub allowed : own_refusal (selected_with view) c ≡ None

-- ---- notes and tries behind it

-- the notes with one more, where there are records
abbrev pub with_records : List Note → Note → List Record → List Note
with_records notes note [] = notes
with_records notes note (r ∷ rs) = notes ++ note ∷ []

-- the tries with one more, where the disk failed it
abbrev pub tries_behind : List Try → Try → Result Receipt StoreFault → List Try
tries_behind tries t (Err (fault.Disk faults)) = tries ++ t ∷ []
tries_behind tries t result = tries

module _ {S C : Type 0} where
  -- behind Ok with the receipt's, where it has records; else as they were
  abbrev pub notes_behind : Log → List Note → ℕ → Command → State S C → Result Receipt StoreFault
      → List Note
  notes_behind start notes author c store (Ok receipt) = with_records notes
      (note_of (log_of start notes) author c receipt.received receipt.group
      store.chain.live.mailbox) receipt.group.records
  notes_behind start notes author c store (Err e) = notes

  -- the try of a commit that was given these
  abbrev pub try_of : ℕ → ℕ → Command → View → State S C → (ℕ → ℕ) → Try
  try_of place author c view store upcoming = record {
    place = place;
    author = author;
    command = c;
    view = view;
    reading = received_at (turns store.owed store.chain) upcoming;
  }

  -- ---- what it leaves

  -- a command was committed over a shelf that tells: from rest to rest, and where nothing was
  -- written, the shelf was only looked at
  pub record CommitsTold (sees : SeesFolder S) (tells : Type 0) (c : Command) (view : View)
      (upcoming : ℕ → ℕ) (old new : State S C) (result : Result Receipt StoreFault) : Type 0 where
    pub value : Commits c view old new result
    pub gives : AtReading tells (received_at (turns old.owed old.chain) upcoming) (λ received.
        (log : Log) (debt : Debt) (author : ℕ) → IsAtRest sees log debt old
        → CommitsQuietly sees log debt (write_at author c view received) old new result)
    pub looks : IsUnwritten result → OnlyLooks sees old.shelf new.shelf

  -- The store rests with these notes and tries. A crash at any moment leaves what it gave before, or
  -- what it gives behind.
  pub record LeavesBehind (sees : SeesFolder S) (tells : Type 0) (start : Log)
      (notes notes_now : List Note) (tries tries_now : List Try) (old new : State S C) : Type 0
    where
      pub rests : RestsBehind sees tells start notes_now tries_now new
      pub since : LeavesOnly sees old.shelf new.shelf (λ c. GivesLast tells start notes tries c
          ⊎ GivesLast tells start notes_now tries_now c)
