-- What a call that ends without a value passes on.
use Rattle.std.proofs.Common.{◌≡◌, ℕ, subst, sym}
use Rattle.dv_formats.specs.SnapshotFaults.{Counts, SnapshotFault}
use Rattle.dv_index.specs.declared.fault.IndexEnd.{IndexEnd}
use Rattle.dv_index.specs.declared.fault.IndexEnd.TheVariants.{Fault, NoMemory}
use Rattle.dv_index.specs.Reading.{OnEnd}

-- a failed check
abbrev pub IsCheck : ℕ → Type 0 → SnapshotFault → Type 0
IsCheck n P f = (f ≡ Counts n) × P

pub check_weaker : (e : IndexEnd) (n : ℕ) (P Q : Type 0) → (P → Q) → OnEnd e (IsCheck n P) → OnEnd e (IsCheck n Q)
check_weaker NoMemory n P Q weaker on = tt
check_weaker (Fault f) n P Q weaker on = (on.0, weaker on.1)

pub fault_weaker : (e : IndexEnd) (P Q : SnapshotFault → Type 0) → ((f : SnapshotFault) → P f → Q f) → OnEnd e P → OnEnd e Q
fault_weaker NoMemory P Q weaker on = tt
fault_weaker (Fault f) P Q weaker on = weaker _ on

pub check_fault : (e : IndexEnd) (n : ℕ) (P : Type 0) (Q : SnapshotFault → Type 0) → (P → Q (Counts n)) → OnEnd e (IsCheck n P) → OnEnd e Q
check_fault NoMemory n P Q weaker on = tt
check_fault (Fault f) n P Q weaker on = subst Q (sym on.0) (weaker on.1)
