-- The readings of the clock behind an error.
use Rattle.std.proofs.Common.{◌≡◌, inl, inr, ℕ, Err, refl}
use Rattle.dv_shelf.specs.Clocks.{behind}
use Rattle.dv_files.specs.declared.fault.ChainFault.{ChainFault}
use Rattle.dv_files.specs.declared.fault.ChainFault.TheVariants as chain_fault
use Rattle.dv_plans.specs.declared.fault.StoreFault.{StoreFault}
use Rattle.dv_plans.specs.declared.fault.StoreFault.TheVariants as fault
use Rattle.dv_plans.specs.Begins.{TakesReadings}
use Rattle.dv_plans.specs.Faults.{OnDisk, chain_told}

-- none was taken, and the disk wasn't asked
pub readings_none : (A B : Type 0) (n : ℕ) (old : ℕ → ℕ) (e : StoreFault) → OnDisk {A = A} (Err e) (λ faults. ⊥) → TakesReadings {A = B} n old old (Err e)
readings_none A B n old fault.UidsUsedUp none = inl refl
readings_none A B n old (fault.TooLong bytes) none = inl refl
readings_none A B n old (fault.Disk faults) none = absurd none
readings_none A B n old fault.NoMemory none = inl refl

pub readings_told : (A : Type 0) (n : ℕ) (old new : ℕ → ℕ) (e : ChainFault) → new ≡ behind old n → TakesReadings {A = A} n old new (Err (chain_told e))
readings_told A n old new (chain_fault.Disk faults) is = is
readings_told A n old new chain_fault.NoMemory is = inr is
