-- What an opening answers: a store, or the folder and the clock with a fault. The records take
-- what a shelf shows.
use Rattle.std.specs.Prelude.{◌≡◌, ℕ, Result, Ok, Err, IfOk}
use Rattle.dv_model.specs.declared.types.OpenFault.{OpenFault}
use Rattle.dv_model.specs.Journals.{Log}
use Rattle.dv_shelf.specs.Crashes.{IsSettled, LeavesOnly}
use Rattle.dv_shelf.specs.Folders.{Folder}
use Rattle.dv_openings.specs.Openings.{IsFound}
use Rattle.dv_openings.specs.Rebuilds.{stamp_of}
use Rattle.dv_chain.specs.declared.chain.Chain.{Chain}
use Rattle.dv_chain.specs.Creations.{HasNone, IsFirst, IsOldOrCreated, LeavesCreated}
use Rattle.dv_chain.specs.Openings.{Answers, HasBounds, IsChainOf, UnlessDisk, found_of}
use Rattle.dv_chain.specs.Rest.{Rests}
use Rattle.dv_chain.specs.Rest as chain_rest
use Rattle.dv_writing.specs.Debts.{Nothing, Stands}
use Rattle.dv_writing.specs.Keeping.{Keeps}
use Rattle.dv_store.specs.States.{State, fresh_state}
use Rattle.dv_shelf.specs.Sees.{SeesFolder}

module _ {S C : Type 0} where
  -- ---- the parts of an answer

  -- the chain, or the fault
  abbrev pub answered : Result (State S C) (S × C × OpenFault) → Result Chain OpenFault
  answered (Ok store) = Ok store.chain
  answered (Err e) = Err e.2

  -- the folder
  abbrev pub shelf_behind : Result (State S C) (S × C × OpenFault) → S
  shelf_behind (Ok store) = store.shelf
  shelf_behind (Err e) = e.0

  -- the clock
  abbrev pub clock_behind : Result (State S C) (S × C × OpenFault) → C
  clock_behind (Ok store) = store.clock
  clock_behind (Err e) = e.1

  -- ---- what is answered

  -- a store that was opened just now
  pub record IsFresh (store : State S C) : Type 0 where
    pub is : store ≡ fresh_state store.shelf store.clock store.chain
    pub bounds : HasBounds store.chain

  -- What is answered is found in the folder, and a chain stands on its log.
  pub record Opens (folder : Folder) (result : Result (State S C) (S × C × OpenFault)) : Type 0
    where
      pub found : Answers found_of (answered result) (IsFound folder)
      pub chain : IfOk (answered result) (IsChainOf folder)

  -- From a settled folder: a crash at any moment leaves one as the step says. It is settled again,
  -- unless the disk failed; behind Ok the store is at rest and owes nothing, with each log of its
  -- index whose messages the folder had.
  pub record OpensQuietly (sees : SeesFolder S) (step : Folder → Folder → Type 0) (old : S)
      (result : Result (State S C) (S × C × OpenFault)) : Type 0 where
    pub since : LeavesOnly sees old (shelf_behind result) (step (sees.files old))
    pub settled : UnlessDisk (answered result) (IsSettled sees (shelf_behind result))
    pub rests : IfOk result (λ store. Rests sees chain_rest.Nothing store.chain store.shelf)
    pub stands : IfOk result (λ store. (log : Log) → log.indexid ≡ store.chain.indexid
        → Keeps log store.chain.live.mailbox (sees.files old)
        → Stands sees log Nothing store.chain store.shelf)

  -- A mailbox is made at this reading of the clock: it is a new one of that number, and so is what is
  -- left of the files, and what a crash leaves of a folder that has none.
  pub record MakesNew (sees : SeesFolder S) (old : S)
      (result : Result (State S C) (S × C × OpenFault)) (now : ℕ) : Type 0 where
    pub first : IfOk result (λ store. IsFirst (stamp_of now) store.chain)
    pub files : sees.tells → LeavesCreated (sees.files old) now (sees.files (shelf_behind result))
        (answered result)
    pub quiet : sees.tells → HasNone (sees.files old) → IsSettled sees old
        → OpensQuietly sees (λ folder. IsOldOrCreated folder now) old result
