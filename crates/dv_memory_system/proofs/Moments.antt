-- One call more: the folder behind it, and what a crash might have left.
use Rattle.std.proofs.Common.{◌≡◌, ◌⊎◌, inl, inr, ⊎_elim, ℕ, ◌+◌, ◌≤◌, List, [], ◌∷◌, ◌++◌, length, take, Result, Ok, Err, OnOk, OnErr, sym, ◌∙◌, ap, subst, arith, length-append}
use Rattle.std.proofs.lemmas.List.{take_all, take-append-le}
use Rattle.std.proofs.lemmas.List.Sums.{fold-append}
use Rattle.dv_shelf.specs.Folders.{Folder}
use Rattle.dv_shelf.specs.Crashes.{Elapses}
use Rattle.dv_system.specs.Disks.{LeftBy}
use Rattle.dv_memory_system.specs.declared.step.Deed.{Deed}
use Rattle.dv_memory_system.specs.declared.step.Step.{Step}
use Rattle.dv_memory_system.specs.Steps.{deed_then, disk_after, new_disk, step_then, with_step, IsTried}
use Rattle.dv_memory_system.specs.Systems.{LeftSince}

-- the folder behind one call more
pub disk_more : (old new : List Step) (deed : Deed) (bytes : List ℕ) → new ≡ with_step old deed bytes
    → disk_after new ≡ deed_then (disk_after old) bytes deed
disk_more old new deed bytes is =
    ap disk_after is ∙ fold-append step_then new_disk old (record { deed = deed; bytes = bytes } ∷ [])

abbrev pub Time : List Step → List Step → Type 0
Time old new = Elapses (length old) (length new) (LeftSince old) (LeftSince new) (LeftBy (disk_after new))

stays : (old : List Step) → Time old old
stays old = record {
  later = omega arith;
  nothing_else = λ t c le since. inl since;
  keeps = λ t c le past. past;
}

-- nothing was done
pub stays_same : (old new : List Step) → new ≡ old → Time old new
stays_same old new same = subst (Time old) (sym same) (stays old)

one_more : (old : List Step) (step : Step) → Time old (old ++ step ∷ [])
one_more old step = record {
  later = omega (arith, long);
  nothing_else = λ t c le since. since_cases t c since (le_cases since.0 since.2);
  keeps = λ t c le past. (past.0, past.1, omega (arith, long, past.2), at past.0 past.2 c past.3);
}
  where
    long : length (old ++ step ∷ []) ≡ length old + 1
    long = length-append old (step ∷ [])

    at : (k : ℕ) → k ≤ length old → (c : Folder) → LeftBy (disk_after (take k old)) c
        → LeftBy (disk_after (take k (old ++ step ∷ []))) c
    at k le c is =
        let Q : List Step → Type 0 = λ l. LeftBy (disk_after l) c in
        subst Q (sym (take-append-le k old (step ∷ []) le)) is

    le_cases : (k : ℕ) → k ≤ length (old ++ step ∷ [])
        → (k ≤ length old) ⊎ (length (old ++ step ∷ []) ≤ k)
    le_cases k le = grind (arith, long)

    since_cases : (t : ℕ) (c : Folder) (since : LeftSince (old ++ step ∷ []) t c)
        → (since.0 ≤ length old) ⊎ (length (old ++ step ∷ []) ≤ since.0)
        → LeftSince old t c ⊎ LeftBy (disk_after (old ++ step ∷ [])) c
    since_cases t c since (inl le) =
        let Q : List Step → Type 0 = λ l. LeftBy (disk_after l) c in
        inl (since.0, since.1, le, subst Q (take-append-le since.0 old (step ∷ []) le) since.3)
    since_cases t c since (inr le) =
        let Q : List Step → Type 0 = λ l. LeftBy (disk_after l) c in
        inr (subst Q (take_all since.0 (old ++ step ∷ []) le) since.3)

-- one deed was done
pub goes_on : (old new : List Step) (deed : Deed) (bytes : List ℕ) → new ≡ with_step old deed bytes → Time old new
goes_on old new deed bytes is = subst (Time old) (sym is) (one_more old _)

-- ---- a call that does the first of three deeds, or fails

module _ (done hidden shown : Deed) (bytes : List ℕ) (old new : List Step) where
  pub elapsed : {T E : Type 0} (r : Result T E) → OnOk r (new ≡ with_step old done bytes) → OnErr r (IsTried hidden shown bytes old new) → Time old new
  elapsed (Ok x) ok err = goes_on old new done bytes ok
  elapsed (Err e) ok (inl same) = stays_same old new same
  elapsed (Err e) ok (inr (inl is)) = goes_on old new shown bytes is
  elapsed (Err e) ok (inr (inr is)) = goes_on old new hidden bytes is

  pub failed_time : IsTried hidden shown bytes old new → Time old new
  failed_time (inl same) = stays_same old new same
  failed_time (inr (inl is)) = goes_on old new shown bytes is
  failed_time (inr (inr is)) = goes_on old new hidden bytes is

  pub done_disk : {T E : Type 0} (r : Result T E) → OnOk r (new ≡ with_step old done bytes) → OnOk r (disk_after new ≡ deed_then (disk_after old) bytes done)
  done_disk (Ok x) ok = disk_more old new done bytes ok
  done_disk (Err e) ok = tt

  -- it changed nothing, or so, or so
  pub tried_disk : IsTried hidden shown bytes old new
      → (disk_after new ≡ disk_after old) ⊎ ((disk_after new ≡ deed_then (disk_after old) bytes shown) ⊎ (disk_after new ≡ deed_then (disk_after old) bytes hidden))
  tried_disk (inl same) = inl (ap disk_after same)
  tried_disk (inr (inl is)) = inr (inl (disk_more old new shown bytes is))
  tried_disk (inr (inr is)) = inr (inr (disk_more old new hidden bytes is))

  pub failed_disk : {T E : Type 0} (r : Result T E) → OnErr r (IsTried hidden shown bytes old new)
      → OnErr r ((disk_after new ≡ disk_after old) ⊎ ((disk_after new ≡ deed_then (disk_after old) bytes shown) ⊎ (disk_after new ≡ deed_then (disk_after old) bytes hidden)))
  failed_disk (Ok x) err = tt
  failed_disk (Err e) err = tried_disk err

-- the same of one that fails in one way alone
module _ (done failed : Deed) (bytes : List ℕ) (old new : List Step) where
  pub failed_once : {T E : Type 0} (r : Result T E) → OnErr r (IsTried failed failed bytes old new)
      → OnErr r ((disk_after new ≡ disk_after old) ⊎ (disk_after new ≡ deed_then (disk_after old) bytes failed))
  failed_once (Ok x) err = tt
  failed_once (Err e) err = ⊎_elim inl (λ more. inr (⊎_elim (λ is. is) (λ is. is) more)) (tried_disk failed failed failed bytes old new err)
