-- What opening a folder tells and comes from, and how often the clock is read.
use Rattle.std.specs.Prelude.{◌≡◌, ℕ, Result, Ok, Err}
use Rattle.dv_model.specs.declared.types.OpenFault.{OpenFault}
use Rattle.dv_model.specs.declared.types.OpenFault.TheVariants as fault
use Rattle.dv_shelf.specs.Folders.{Folder, IsNew}
use Rattle.dv_openings.specs.Openings.{IsFound}
use Rattle.dv_chain.specs.Openings.{FaultFound}
use Rattle.dv_serving.specs.Readings.{TakesUpTo}

-- ---- faults

-- the status by why the folder's mailbox isn't opened
abbrev pub fault_status : OpenFault → ℕ
fault_status (fault.Disk faults) = 2
fault_status fault.NoMemory = 4
fault_status other = 3

-- what the folder holds is why, neither memory nor a failure
abbrev pub IsFault : OpenFault → Type 0
IsFault f = fault_status f ≡ 3

-- a fault is found in a folder that has a file of a mailbox
pub record HasFault (folder : Folder) : Type 0 where
  pub fault : OpenFault
  pub is : IsFault fault
  pub found : FaultFound fault (IsFound folder)
  pub some : IsNew folder → ⊥

-- So opening a folder tells: the fault that is found, where it has a file of a mailbox; else it has
-- none.
abbrev pub TellsOpening : {A : Type 0} → Folder → Result A OpenFault → Type 0
TellsOpening folder (Ok x) = HasFault folder → ⊥
TellsOpening folder (Err f) =
    IsFault f → FaultFound f (IsFound folder) × (IsNew folder → ⊥)

-- ---- the clock

-- once at most, and not at all where a fault is found
abbrev pub TakesForOpening : (ℕ → ℕ) → (ℕ → ℕ) → {A : Type 0} → Result A OpenFault → Type 0
TakesForOpening old new (Ok store) = TakesUpTo 1 old new
TakesForOpening old new (Err (fault.Disk faults)) = TakesUpTo 1 old new
TakesForOpening old new (Err fault.NoMemory) = TakesUpTo 1 old new
TakesForOpening old new (Err found) = new ≡ old
