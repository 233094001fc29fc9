-- What stands behind a fault, over several calls.
use Rattle.std.proofs.Common.{◌≡◌, ℕ, ◌≤◌, Result, Ok, Err, refl, subst, arith}
use Rattle.dv_shelf.specs.Causes.{HasCauseOf}
use Rattle.dv_shelf.specs.declared.shelf.ShelfFault.{ShelfFault}
use Rattle.dv_shelf.specs.declared.shelf.ShelfFault.TheVariants as shelf_fault
use Rattle.dv_files.specs.declared.fault.ChainFault.{ChainFault}
use Rattle.dv_files.specs.declared.fault.ChainFault.TheVariants as chain_fault
use Rattle.dv_files.specs.Leavings.{HasFaultCause, OnDisk}
use Rattle.dv_plans.specs.Faults.{HasStoreCause, chain_told, shelf_told}

-- a shelf's answer is told with its count
pub told_cause : {A B : Type 0} (before now : ℕ) (inner : Result A ShelfFault) (fault : ShelfFault) → inner ≡ Err fault → HasCauseOf shelf_fault.Failed before now inner → HasFaultCause {A = B} before now (Err (shelf_told now fault))
told_cause before now inner shelf_fault.Failed is cause = record { later = cause.later; rose = (refl, cause.rose is) }
told_cause before now inner shelf_fault.NoMemory is cause = record { later = cause.later; rose = tt {0} }

-- nothing is told where nothing failed
pub still_cause : {A : Type 0} (before now : ℕ) (result : Result A ChainFault) → before ≤ now → OnDisk result (λ faults. ⊥) → HasFaultCause before now result
still_cause before now (Ok x) later none = record { later = later; rose = tt {0} }
still_cause before now (Err chain_fault.NoMemory) later none = record { later = later; rose = tt {0} }
still_cause before now (Err (chain_fault.Disk faults)) later none = absurd none

-- calls that went well go before
pub later_cause : {A : Type 0} (before mid now : ℕ) (result : Result A ChainFault) → before ≤ mid → HasFaultCause mid now result → HasFaultCause before now result
later_cause before mid now (Ok x) first cause = record { later = omega (arith, first, cause.later); rose = tt {0} }
later_cause before mid now (Err chain_fault.NoMemory) first cause = record { later = omega (arith, first, cause.later); rose = tt {0} }
later_cause before mid now (Err (chain_fault.Disk faults)) first cause = record { later = omega (arith, first, cause.later); rose = (cause.rose.0, omega (arith, first, cause.rose.1)) }

-- an error is passed on
pub passed_cause : {A B : Type 0} (before now : ℕ) (result : Result A ChainFault) (fault : ChainFault) → result ≡ Err fault → HasFaultCause before now result → HasFaultCause {A = B} before now (Err fault)
passed_cause {A = A} {B = B} before now result fault is cause = by_fault fault (let P : Result A ChainFault → Type 0 = HasFaultCause before now in subst P is cause)
  where
    by_fault : (f : ChainFault) → HasFaultCause {A = A} before now (Err f) → HasFaultCause {A = B} before now (Err f)
    by_fault chain_fault.NoMemory cause = record { later = cause.later; rose = tt {0} }
    by_fault (chain_fault.Disk faults) cause = record { later = cause.later; rose = cause.rose }

pub store_cause : {A B : Type 0} (before now : ℕ) (result : Result A ChainFault) (fault : ChainFault) → result ≡ Err fault → HasFaultCause before now result → HasStoreCause {A = B} before now (Err (chain_told fault))
store_cause before now result chain_fault.NoMemory is cause = record { later = cause.later; rose = tt {0} }
store_cause before now result (chain_fault.Disk faults) is cause =
    let told : HasFaultCause before now (Err (chain_fault.Disk faults)) = subst (HasFaultCause before now) is cause in
    record { later = cause.later; rose = told.rose }
