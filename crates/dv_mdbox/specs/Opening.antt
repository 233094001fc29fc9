-- A storage is opened, or made. The records take what a shelf shows.
use Rattle.std.specs.Prelude.{◌≡◌, ◌⊎◌, ℕ, Result, Ok, Err, IfOk}
use Rattle.dv_model.specs.declared.types.OpenFault.{OpenFault}
use Rattle.dv_model.specs.declared.types.OpenFault.TheVariants as fault
use Rattle.dv_shelf.specs.Clocks.{behind}
use Rattle.dv_shelf.specs.Crashes.{IsSettled, LeavesOnly}
use Rattle.dv_shelf.specs.Folders.{Folder, IsNew}
use Rattle.dv_shelf.specs.Sees.{SeesFolder}
use Rattle.dv_openings.specs.Openings.{IsFound}
use Rattle.dv_openings.specs.Rebuilds.{stamp_of}
use Rattle.dv_chain.specs.declared.chain.Chain.{Chain}
use Rattle.dv_chain.specs.Creations.{IsFirst, IsOldOrCreated}
use Rattle.dv_chain.specs.Openings.{Answers, FaultFound, HasBounds, IsOutside, IsQuiet, UnlessDisk, found_of}
use Rattle.dv_chain.specs.Rest.{Nothing}
use Rattle.dv_filing.specs.Standing.{Stands}
use Rattle.dv_maps.specs.Laws.{IsMap}
use Rattle.dv_maps.specs.Texts.{KeepsTexts, Messages}
use Rattle.dv_mdbox.specs.States.{State, fresh_state}

-- ---- a chain

-- What is answered is found in the folder. A crash at any moment leaves one that opens to the same.
-- Behind Ok a storage stands with whatever messages the folder had, and owes nothing.
pub record OpensChain {S : Type 0} (sees : SeesFolder S) (old new : S)
    (result : Result Chain OpenFault) : Type 0 where
  pub found : Answers found_of result (IsFound (sees.files old))
  pub since : LeavesOnly sees old new (IsQuiet (sees.files old))
  pub settled : UnlessDisk result (IsSettled sees new)
  pub stands : IfOk result (λ chain. (messages : Messages)
      → KeepsTexts messages chain.live.mailbox (sees.files old)
      → Stands sees messages Nothing chain new)

-- The folder has no file of a storage; or it has one, or can't be looked at, and so it's answered.
abbrev pub IsNewOrOpened : {S : Type 0} → SeesFolder S → S → S → Result Chain OpenFault → Type 0
IsNewOrOpened sees old new result = IsNew (sees.files old) ⊎ OpensChain sees old new result

-- A map is made at this reading of the clock: a new one of that number. A crash at any moment
-- leaves the folder as it was, or with the new log.
pub record MakesChain {S : Type 0} (sees : SeesFolder S) (old new : S)
    (result : Result Chain OpenFault) (now : ℕ) : Type 0 where
  pub first : IfOk result (λ chain. IsFirst (stamp_of now) chain × IsMap chain.live.mailbox)
  pub since : LeavesOnly sees old new (λ c. IsOldOrCreated (sees.files old) now c)
  pub settled : UnlessDisk result (IsSettled sees new)
  pub stands : IfOk result (λ chain. (messages : Messages)
      → Stands sees messages Nothing chain new)

-- one reading of the clock, or none
abbrev pub TakesOne : (ℕ → ℕ) → (ℕ → ℕ) → Type 0
TakesOne old new = (new ≡ old) ⊎ (new ≡ behind old 1)

-- so it is; but none where a fault is found in the folder
abbrev pub TakesToOpen : {A : Type 0} → (ℕ → ℕ) → (ℕ → ℕ) → Result A OpenFault → Type 0
TakesToOpen old new (Ok x) = TakesOne old new
TakesToOpen old new (Err (fault.Disk faults)) = TakesOne old new
TakesToOpen old new (Err fault.NoMemory) = TakesOne old new
TakesToOpen old new (Err found) = new ≡ old

-- What the folder holds is told: the map at its log's end, where it has a file of a storage, or the
-- fault that is found. Memory and the disk may end it before.
abbrev pub TellsFolder : Folder → Result Chain OpenFault → Type 0
TellsFolder folder (Ok chain) = IsNew folder ⊎ IsFound folder (found_of chain)
TellsFolder folder (Err e) =
    FaultFound e (IsFound folder) × (IsOutside e ⊎ (IsNew folder → ⊥))

-- ---- a storage

module _ {S C : Type 0} where
  -- the chain, or the fault
  abbrev pub answered : Result (State S C) (S × C × OpenFault) → Result Chain OpenFault
  answered (Ok storage) = Ok storage.chain
  answered (Err e) = Err e.2

  -- the folder
  abbrev pub shelf_behind : Result (State S C) (S × C × OpenFault) → S
  shelf_behind (Ok storage) = storage.shelf
  shelf_behind (Err e) = e.0

  -- the clock
  abbrev pub clock_behind : Result (State S C) (S × C × OpenFault) → C
  clock_behind (Ok storage) = storage.clock
  clock_behind (Err e) = e.1

  -- a storage that was opened just now
  pub record IsFresh (s : State S C) : Type 0 where
    pub is : s ≡ fresh_state s.shelf s.clock s.chain
    pub bounds : HasBounds s.chain
