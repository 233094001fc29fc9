-- Why a write isn't made ready, and what stands behind such a fault.
use Rattle.std.specs.Prelude.{◌≡◌, ◌≤◌, ℕ, Result, Err, ⊤}
use Rattle.dv_model.specs.Counts.{Rose}
use Rattle.dv_shelf.specs.declared.shelf.ShelfFault.{ShelfFault}
use Rattle.dv_shelf.specs.declared.shelf.ShelfFault.TheVariants as shelf_fault
use Rattle.dv_groups.specs.declared.limits.Limit.{Limit}
use Rattle.dv_groups.specs.declared.limits.Limit.TheVariants as limit
use Rattle.dv_files.specs.declared.fault.ChainFault.{ChainFault}
use Rattle.dv_files.specs.declared.fault.ChainFault.TheVariants as chain_fault
use Rattle.dv_plans.specs.declared.fault.StoreFault.{StoreFault}
use Rattle.dv_plans.specs.declared.fault.StoreFault.TheVariants as fault

-- a limit that is met
abbrev pub limit_told : Limit → StoreFault
limit_told limit.UidsUsedUp = fault.UidsUsedUp
limit_told (limit.TooLong bytes) = fault.TooLong bytes

-- what a shelf answers, with its count of faults
abbrev pub shelf_told : ℕ → ShelfFault → ChainFault
shelf_told faults shelf_fault.Failed = chain_fault.Disk faults
shelf_told faults shelf_fault.NoMemory = chain_fault.NoMemory

-- what comes of the files and of memory
abbrev pub chain_told : ChainFault → StoreFault
chain_told (chain_fault.Disk faults) = fault.Disk faults
chain_told chain_fault.NoMemory = fault.NoMemory

-- the disk failed only with this
abbrev pub OnDisk : {A : Type 0} → Result A StoreFault → (ℕ → Type 0) → Type 0
OnDisk (Err (fault.Disk faults)) P = P faults
OnDisk r P = ⊤

-- a fault of the disk comes only where a count rose, and tells the count; the count never falls
pub record HasStoreCause {A : Type 0} (before now : ℕ) (result : Result A StoreFault)
    : Type 0 where
  pub later : before ≤ now
  pub rose : OnDisk result (λ faults. (faults ≡ now) × Rose before now)
