-- What is kept when a run begins. The records take what a shelf shows.
use Rattle.std.specs.Prelude.{◌≡◌, ℕ, [], None}
use Rattle.dv_model.specs.Journals.{Log}
use Rattle.dv_shelf.specs.Crashes.{IsSettled}
use Rattle.dv_shelf.specs.Folders.{Folder}
use Rattle.dv_shelf.specs.Sees.{SeesFolder}
use Rattle.dv_generations.specs.Feeds.{new_feed}
use Rattle.dv_member.specs.Members.{IsStart}
use Rattle.dv_files.specs.Texts.{place_of}
use Rattle.dv_store.specs.Rest.{IsAtRest}
use Rattle.dv_store.specs.States.{State}
use Rattle.dv_tries.specs.Images.{LeavesSince}
use Rattle.dv_tries.specs.Tries.{GivesLog}
use Rattle.dv_writing.specs.Debts.{Nothing}
use Rattle.dv_shared.specs.Kept.{Kept, Locked}

-- the number of words of a table, where no group needs more
abbrev pub table_words : ℕ
table_words = 32768

module _ {S C : Type 0} where
  -- The shelf tells its files, and is settled. The store is at rest with the start and owes
  -- nothing, and since the moment a crash has left folders that give the start.
  pub record BeginsFolder (sees : SeesFolder S) (start : Log) (moment : ℕ)
      (past : ℕ → Folder → Type 0) (store : State S C) : Type 0 where
    pub told : sees.tells
    pub settled : IsSettled sees store.shelf
    pub rests : IsAtRest sees start Nothing store
    pub since : LeavesSince sees moment past store.shelf (GivesLog start)

  -- a store that was opened or made just now has the mailbox of the start, at its place
  pub record Begins (sees : SeesFolder S) (start : Log) (moment : ℕ)
      (past : ℕ → Folder → Type 0) (honest : Type 0) (store : State S C) : Type 0 where
    pub start_is : IsStart start
    pub mailbox : store.chain.live.mailbox ≡ start.start
    pub mark : store.mark ≡ start.start_mark
    pub place : place_of store.chain ≡ store.mark
    pub owed : store.owed ≡ None
    pub indexid : store.chain.indexid ≡ start.indexid
    pub folder : honest → BeginsFolder sees start moment past store

  -- no note is published, and no write was tried
  abbrev pub first_kept : State S C → Kept S C
  first_kept store =
      record { store = store; feed = new_feed table_words; count = 0; tries = [] }

  abbrev pub first_locked : State S C → Locked S C
  first_locked store = record { kept = first_kept store; refused = 0 }
