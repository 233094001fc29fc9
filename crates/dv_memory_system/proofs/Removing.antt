-- A file is removed, or there is none.
use Rattle.std.proofs.Common.{◌≡◌, Bool, true, false, [], List, Option, Some, None, Result, Ok, Err, OnOk, is_some, refl, sym, subst}
use Rattle.std.specs.Prelude.{IfOk}
use Rattle.dv_system.specs.declared.system.Entry.{Entry}
use Rattle.dv_system.specs.Disks.{Unlinks}
use Rattle.dv_memory_system.specs.declared.step.Step.{Step}
use Rattle.dv_memory_system.specs.Steps.{disk_after, unlinked_so, with_step}
use Rattle.dv_memory_system.proofs.Moments.{disk_more}

pub none_there : {T : Type 0} (file : Option T) → is_some file ≡ false → file ≡ None
none_there None none = refl
none_there (Some x) none = absurd (cc)

module _ (there : Entry) (old new : List Step) where
  pub was_there : {E : Type 0} (r : Result Bool E) → IfOk r (λ was. (was ≡ true) × (new ≡ with_step old (unlinked_so there true) []))
      → IfOk r (λ was. Unlinks was there (disk_after old) (disk_after new))
  was_there (Ok was) is = subst (λ (b : Bool). Unlinks b there (disk_after old) (disk_after new)) (sym is.0) (disk_more old new (unlinked_so there true) [] is.1)
  was_there (Err e) is = tt

  pub one_step : {E : Type 0} (r : Result Bool E) → IfOk r (λ was. (was ≡ true) × (new ≡ with_step old (unlinked_so there true) []))
      → OnOk r (new ≡ with_step old (unlinked_so there true) [])
  one_step (Ok was) is = is.1
  one_step (Err e) is = tt

  pub was_missing : {E : Type 0} (r : Result Bool E) → IfOk r (λ was. was ≡ false) → Unlinks false there (disk_after old) (disk_after new)
      → IfOk r (λ was. Unlinks was there (disk_after old) (disk_after new))
  was_missing (Ok was) is missing = subst (λ (b : Bool). Unlinks b there (disk_after old) (disk_after new)) (sym is) missing
  was_missing (Err e) is missing = tt
