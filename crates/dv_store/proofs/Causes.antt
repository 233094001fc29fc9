-- What stands behind a store's fault.
use Rattle.std.proofs.Common.{◌≡◌, ℕ, Result, Ok, Err, refl, sym, subst, arith}
use Rattle.dv_shelf.specs.Causes.{HasCause, HasCauseOf}
use Rattle.dv_shelf.specs.declared.shelf.ShelfFault.{ShelfFault}
use Rattle.dv_shelf.specs.declared.shelf.ShelfFault.TheVariants as shelf_fault
use Rattle.dv_plans.specs.declared.fault.StoreFault.{StoreFault}
use Rattle.dv_plans.specs.declared.fault.StoreFault.TheVariants as fault
use Rattle.dv_plans.specs.Faults.{HasStoreCause}
use Rattle.dv_store.specs.Faults.{shelf_told}

-- a shelf's answer is told with its count
pub told_cause : {A B : Type 0} (before now : ℕ) (inner : Result A ShelfFault) (e : ShelfFault) (f : StoreFault) → inner ≡ Err e → f ≡ shelf_told now e → HasCauseOf shelf_fault.Failed before now inner → HasStoreCause {A = B} before now (Err f)
told_cause {B = B} before now inner e f is told cause = subst (λ (x : StoreFault). HasStoreCause {A = B} before now (Err x)) (sym told) (by_fault e is)
  where
    by_fault : (x : ShelfFault) → inner ≡ Err x → HasStoreCause {A = B} before now (Err (shelf_told now x))
    by_fault shelf_fault.Failed same = record { later = cause.later; rose = (refl, cause.rose same) }
    by_fault shelf_fault.NoMemory same = record { later = cause.later; rose = tt {0} }

-- a look that went well
pub seen_cause : {A B E : Type 0} (failed : E) (before now : ℕ) (inner : Result A E) (y : B) → HasCauseOf failed before now inner → HasStoreCause before now (Ok y)
seen_cause failed before now inner y cause = record { later = cause.later; rose = tt {0} }

-- a failure of the disk, behind a call that failed, and behind another that went well
pub disk_cause : {T U E : Type 0} (before now : ℕ) (e : E) (f : StoreFault) → f ≡ fault.Disk now → HasCause {T = T} {E = E} before now (Err e) → HasStoreCause {A = U} before now (Err f)
disk_cause {U = U} before now e f is cause = subst (λ (x : StoreFault). HasStoreCause {A = U} before now (Err x)) (sym is) (record { later = cause.later; rose = (refl, cause.rose) })

pub late_cause : {T U V E F : Type 0} (before mid now : ℕ) (x : T) (e : E) (f : StoreFault) → f ≡ fault.Disk now → HasCause {T = T} {E = F} before mid (Ok x) → HasCause {T = V} {E = E} mid now (Err e) → HasStoreCause {A = U} before now (Err f)
late_cause {U = U} before mid now x e f is first second = subst (λ (x : StoreFault). HasStoreCause {A = U} before now (Err x)) (sym is) (record { later = omega (arith, first.later, second.later); rose = (refl, omega (arith, first.later, second.rose)) })

pub both_cause : {T U V E F : Type 0} (before mid now : ℕ) (x : T) (y : U) (z : V) → HasCause {T = T} {E = E} before mid (Ok x) → HasCause {T = U} {E = F} mid now (Ok y) → HasStoreCause before now (Ok z)
both_cause before mid now x y z first second = record { later = omega (arith, first.later, second.later); rose = tt {0} }
