-- Calls on an open file.
use Rattle.std.proofs.Common.{◌≡◌, inl, inr, ⊎_elim, ℕ, ◌/◌, ◌≤◌, true, false, List, [], length, Option, Some, None, Result, Ok, Err, OnOk, OnErr, refl, sym, ◌∙◌, ap, arith}
use Rattle.std.specs.Prelude.{nat_eq}
use Rattle.std.proofs.lemmas.Bool.{eq-eqb, eqb-true}
use Rattle.std.proofs.lemmas.List.{take_all}
use Rattle.dv_system.specs.declared.system.Entry.{Entry}
use Rattle.dv_system.specs.Entries.{written_at, synced_at, doubted_at}
use Rattle.dv_system.specs.Disks.{changed, IsUnchangedOr}
use Rattle.dv_memory_system.specs.declared.step.Change.TheVariants.{Write}
use Rattle.dv_memory_system.specs.declared.step.Deed.{Deed}
use Rattle.dv_memory_system.specs.declared.step.Deed.TheVariants as deed
use Rattle.dv_memory_system.specs.declared.step.Step.{Step}
use Rattle.dv_memory_system.specs.declared.system.MemFile.{MemFile}
use Rattle.dv_memory_system.specs.Steps.{disk_after, synced_so, with_step, IsTried, IsWrittenPart}
use Rattle.dv_memory_system.specs.Systems.{is_place, place_of}
use Rattle.dv_memory_system.proofs.Moments.{disk_more, elapsed, failed_once, tried_disk, Time}
use Rattle.dv_memory_system.proofs.Standing.{place_is, stands_still}

abbrev pub write_deed : Entry → ℕ → ℕ → Deed
write_deed entry at n = deed.File entry (Write at n)

module _ (entry : Entry) (at : ℕ) (bytes : List ℕ) (n : ℕ) (long : n ≡ length bytes) (old new : List Step) where
  abbrev Hidden : Deed
  Hidden = write_deed entry at 0

  abbrev Shown : Deed
  Shown = write_deed entry at (n / 2)

  pub all_written : {T E : Type 0} (r : Result T E) → OnOk r (new ≡ with_step old (write_deed entry at n) bytes)
      → OnOk r (disk_after new ≡ changed (written_at at (length bytes) bytes) (disk_after old) entry)
  all_written (Ok x) is =
      disk_more old new (write_deed entry at n) bytes is
      ∙ ap (λ (b : List ℕ). changed (written_at at (length bytes) b) (disk_after old) entry) (take_all n bytes (omega arith))
  all_written (Err e) is = tt

  pub part_written : {T E : Type 0} (r : Result T E) → OnErr r (IsTried Hidden Shown bytes old new) → OnErr r (IsWrittenPart at bytes entry (disk_after old) (disk_after new))
  part_written (Ok x) is = tt
  part_written (Err e) is =
      ⊎_elim inl (λ some. inr (⊎_elim (λ shown. (n / 2, omega arith, shown)) (λ hidden. (0, omega arith, hidden)) some))
      (tried_disk Hidden Hidden Shown bytes old new is)

  pub written_still : {T E : Type 0} (r : Result T E) (file : MemFile) (e : Entry) → OnOk r (new ≡ with_step old (write_deed entry at n) bytes) → OnErr r (IsTried Hidden Shown bytes old new)
      → is_place (place_of old file) e ≡ true → is_place (place_of new file) e ≡ true
  written_still r file e ok err = stands_still file e old new (write_deed entry at n) Hidden Shown bytes refl refl refl r ok err

  pub written_time : {T E : Type 0} (r : Result T E) → OnOk r (new ≡ with_step old (write_deed entry at n) bytes) → OnErr r (IsTried Hidden Shown bytes old new) → Time old new
  written_time r ok err = elapsed (write_deed entry at n) Hidden Shown bytes old new r ok err

-- ---- a write of no bytes, and one of some

pub not_some : (bytes : List ℕ) → nat_eq (length bytes) 0 ≡ true → 1 ≤ length bytes → ⊥
not_some bytes none some =
    let zero : length bytes ≡ 0 = eqb-true (length bytes) 0 none in
    omega (arith, some, zero)

pub not_none : (bytes : List ℕ) → nat_eq (length bytes) 0 ≡ false → length bytes ≡ 0 → ⊥
not_none bytes some none =
    let both : true ≡ false = sym (eq-eqb (length bytes) 0 none) ∙ some in
    cc

-- ---- the entry at which an open file stands

-- it stands at one alone
pub one_place : (place : Option Entry) (entry e : Entry) → place ≡ Some entry → is_place place e ≡ true → entry ≡ e
one_place place entry e is stood =
    let both : Some entry ≡ Some e = sym is ∙ place_is place e stood in
    cc

pub no_place : (place : Option Entry) (e : Entry) → place ≡ None → is_place place e ≡ true → ⊥
no_place place e none stood =
    let both : None ≡ Some e = sym none ∙ place_is place e stood in
    cc

module _ (entry : Entry) (old new : List Step) where
  pub now_synced : {T E : Type 0} (r : Result T E) → OnOk r (new ≡ with_step old (synced_so entry true) [])
      → OnOk r (disk_after new ≡ changed synced_at (disk_after old) entry)
  now_synced (Ok x) is = disk_more old new (synced_so entry true) [] is
  now_synced (Err e) is = tt

  pub not_synced : {T E : Type 0} (r : Result T E) → OnErr r (IsTried (synced_so entry false) (synced_so entry false) [] old new)
      → OnErr r (IsUnchangedOr (disk_after old) (changed doubted_at (disk_after old) entry) (disk_after new))
  not_synced r is = failed_once (synced_so entry true) (synced_so entry false) [] old new r is
