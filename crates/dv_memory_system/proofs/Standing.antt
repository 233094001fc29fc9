-- Open files, behind one call more.
use Rattle.std.proofs.Common.{◌≡◌, ◌≢◌, ◌⊎◌, inl, inr, ⊎_elim, ℕ, ◌+◌, ◌≤◌, Bool, true, false, cond, List, [], ◌∷◌, ◌++◌, length, drop, fold, Option, Some, None, Result, Ok, Err, OnOk, OnErr, refl, sym, ◌∙◌, ap, subst, arith, length-append}
use Rattle.std.specs.Prelude.{IfOk, IsErr, MatchOption}
use Rattle.std.proofs.lemmas.List.{drop-append-le, drop_all}
use Rattle.std.proofs.lemmas.List.Sums.{fold-append}
use Rattle.dv_shelf.specs.declared.shelf.Name.{Name}
use Rattle.dv_shelf.proofs.FolderLemmas.{same_is, is_same}
use Rattle.dv_system.specs.declared.system.Entry.{Entry}
use Rattle.dv_system.specs.declared.system.Entry.TheVariants.{File, Temporary}
use Rattle.dv_memory_system.specs.declared.step.Change.TheVariants.{Unlink}
use Rattle.dv_memory_system.specs.declared.step.Deed.{Deed}
use Rattle.dv_memory_system.specs.declared.step.Deed.TheVariants as deed
use Rattle.dv_memory_system.specs.declared.step.Step.{Step}
use Rattle.dv_memory_system.specs.declared.system.MemFile.{MemFile}
use Rattle.dv_system.specs.Entries.{read_at}
use Rattle.dv_system.specs.Disks.{at_entry}
use Rattle.dv_memory_system.specs.Steps.{disk_after, with_step, IsTried}
use Rattle.dv_memory_system.specs.Places.{moved_to, place_then, same_entry, unless_at}
use Rattle.dv_memory_system.specs.Systems.{is_place, place_of}

pub entries_same : (a b : Entry) → same_entry a b ≡ true → a ≡ b
entries_same (File a) (File b) same = ap File (same_is a b same)
entries_same (File a) Temporary same = absurd (cc)
entries_same Temporary (File b) same = absurd (cc)
entries_same Temporary Temporary same = refl

pub same_entries : (a b : Entry) → a ≡ b → same_entry a b ≡ true
same_entries a b same = subst (λ (e : Entry). same_entry a e ≡ true) same (itself a)
  where
    itself : (e : Entry) → same_entry e e ≡ true
    itself (File name) = is_same name name refl
    itself Temporary = refl

pub place_is : (place : Option Entry) (e : Entry) → is_place place e ≡ true → place ≡ Some e
place_is None e is = absurd (cc)
place_is (Some a) e is = ap Some (entries_same a e is)

pub is_there : (place : Option Entry) (e : Entry) → place ≡ Some e → is_place place e ≡ true
is_there place e is = ap (λ (p : Option Entry). is_place p e) is ∙ same_entries e e refl

-- the file that was just opened
pub just_opened : (steps : List Step) (entry : Entry) → place_of steps (record { entry = entry; since = length steps }) ≡ Some entry
just_opened steps entry = ap (fold place_then (Some entry)) (drop_all (length steps) steps (omega arith))

-- one call more moves a file, or comes before it was opened
place_more : (old : List Step) (step : Step) (file : MemFile)
    → (place_of (old ++ step ∷ []) file ≡ place_then (place_of old file) step) ⊎ (place_of (old ++ step ∷ []) file ≡ place_of old file)
place_more old step file = by_since (le_cases file.since)
  where
    le_cases : (k : ℕ) → (k ≤ length old) ⊎ (length old + 1 ≤ k)
    le_cases k = grind arith

    by_since : (file.since ≤ length old) ⊎ (length old + 1 ≤ file.since)
        → (place_of (old ++ step ∷ []) file ≡ place_then (place_of old file) step) ⊎ (place_of (old ++ step ∷ []) file ≡ place_of old file)
    by_since (inl le) = inl (ap (fold place_then (Some file.entry)) (drop-append-le file.since old (step ∷ []) le) ∙ fold-append place_then (Some file.entry) (drop file.since old) (step ∷ []))
    by_since (inr past) =
        let long : length (old ++ step ∷ []) ≤ file.since = omega (arith, past, length-append old (step ∷ [])) in
        inr (ap (fold place_then (Some file.entry)) (drop_all file.since (old ++ step ∷ []) long ∙ sym (drop_all file.since old (omega arith))))

module _ (file : MemFile) (e : Entry) (old new : List Step) where
  pub still_same : new ≡ old → is_place (place_of old file) e ≡ true → is_place (place_of new file) e ≡ true
  still_same same is = ap (λ (l : List Step). is_place (place_of l file) e) same ∙ is

  -- a call that doesn't move the file at this entry
  pub still : (deed : Deed) (bytes : List ℕ) → moved_to deed e ≡ Some e → new ≡ with_step old deed bytes
      → is_place (place_of old file) e ≡ true → is_place (place_of new file) e ≡ true
  still deed bytes stays is stood =
      let step : Step = record { deed = deed; bytes = bytes } in
      let was = place_is (place_of old file) e stood in
      is_there _ e (ap (λ (l : List Step). place_of l file) is
      ∙ ⊎_elim (λ moved. moved ∙ ap (λ (p : Option Entry). place_then p step) was ∙ stays) (λ same. same ∙ was) (place_more old step file))

  module _ (done hidden shown : Deed) (bytes : List ℕ) (d : moved_to done e ≡ Some e) (h : moved_to hidden e ≡ Some e) (s : moved_to shown e ≡ Some e) where
    pub tried_still : IsTried hidden shown bytes old new → is_place (place_of old file) e ≡ true → is_place (place_of new file) e ≡ true
    tried_still (inl same) = still_same same
    tried_still (inr (inl is)) = still shown bytes s is
    tried_still (inr (inr is)) = still hidden bytes h is

    pub stands_still : {T E : Type 0} (r : Result T E) → OnOk r (new ≡ with_step old done bytes) → OnErr r (IsTried hidden shown bytes old new)
        → is_place (place_of old file) e ≡ true → is_place (place_of new file) e ≡ true
    stands_still (Ok x) ok err = still done bytes d ok
    stands_still (Err x) ok err = tried_still err

-- a file at another entry isn't moved

pub unless_other : (gone e : Entry) → e ≢ gone → unless_at gone e ≡ Some e
unless_other gone e other = by_same (same_entry gone e) refl
  where
    by_same : (t : Bool) → same_entry gone e ≡ t → cond t None (Some e) ≡ Some e
    by_same true same = absurd (other (sym (entries_same gone e same)))
    by_same false away = refl

pub rename_other : (name : Name) (e : Entry) (seen : Bool) → e ≢ File name → e ≢ Temporary → moved_to (deed.Rename name seen) e ≡ Some e
rename_other name (File n) true a b = unless_other (File name) (File n) a
rename_other name Temporary true a b = absurd (b refl)
rename_other name e false a b = refl

pub unlink_other : (other e : Entry) (seen : Bool) → e ≢ other → moved_to (deed.File other (Unlink seen)) e ≡ Some e
unlink_other other e true a = unless_other other e a
unlink_other other e false a = refl

-- a file that was opened where one stands
pub opened_there : {E : Type 0} (entry : Entry) (old new : List Step) (r : Result (Option MemFile) E)
    → IfOk r (λ file. MatchOption file (read_at (at_entry (disk_after old) entry) ≡ None) (λ f. place_of new f ≡ Some entry))
    → IfOk r (λ file. MatchOption file (read_at (at_entry (disk_after old) entry) ≡ None) (λ f. is_place (place_of new f) entry ≡ true))
opened_there entry old new (Ok (Some f)) is = is_there (place_of new f) entry is
opened_there entry old new (Ok None) is = is
opened_there entry old new (Err e) is = tt

-- a call that passes an error on
pub on_err : {T E P : Type 0} (r : Result T E) → P → OnErr r P
on_err (Ok x) is = tt
on_err (Err e) is = is

pub not_ok : {T E : Type 0} (r : Result T E) (P : Type 0) → IsErr r → OnOk r P
not_ok (Ok x) P failed = absurd (cc)
not_ok (Err e) P failed = tt
