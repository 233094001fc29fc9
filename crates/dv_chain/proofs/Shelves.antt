-- What calls on a shelf that only look leave, and what a replace of the log leaves.
use Rattle.std.proofs.Common.{◌≡◌, ◌≢◌, ◌⊎◌, inl, inr, ⊎_elim, ℕ, Option, List, refl, sym, ◌∙◌, subst, arith}
use Rattle.std.proofs.Math.Path.{fun_ext}
use Rattle.dv_model.specs.Counts.{Rose}
use Rattle.dv_model.specs.declared.types.OpenFault.{OpenFault}
use Rattle.dv_model.specs.declared.types.OpenFault.TheVariants as fault
use Rattle.std.specs.Prelude.{Result, Ok, Err}
use Rattle.dv_shelf.specs.declared.shelf.Name.{Name}
use Rattle.dv_shelf.specs.declared.shelf.Name.TheVariants as name
use Rattle.dv_shelf.specs.Crashes.{Elapses, Follows, FollowsNone, LeavesOnly, Only}
use Rattle.dv_shelf.specs.Folders.{ChangesOnly, Folder, IsEither, with_file}
use Rattle.dv_shelf.proofs.FolderLemmas.{with_else}
use Rattle.dv_shelf.proofs.Moments.{goes_on, joined, started, weaker}
use Rattle.dv_chain.specs.Openings.{HasCause, OnlyLooks, UnlessDisk}
use Rattle.dv_chain.specs.Walks.{NoDisk, OnDisk}
use Rattle.dv_shelf.specs.Sees.{SeesFolder}

-- folders with the same files
pub same_folders : (c old : Folder) → c name.Log ≡ old name.Log → ((n : Name) → n ≢ name.Log → c n ≡ old n) → c ≡ old
same_folders c old log others = fun_ext each
  where
    each : (n : Name) → c n ≡ old n
    each name.Log = log
    each name.Index = others name.Index (λ e. cc)
    each name.Log2 = others name.Log2 (λ e. cc)
    each name.Cache = others name.Cache (λ e. cc)
    each (name.Mail k) = others (name.Mail k) (λ e. cc)

-- the log alone is another
pub log_put : (old c : Folder) (file : Option (List ℕ)) → c name.Log ≡ file → ((n : Name) → n ≢ name.Log → c n ≡ old n) → c ≡ with_file old name.Log file
log_put old c file here others = fun_ext each
  where
    elsewhere : (n : Name) → n ≢ name.Log → c n ≡ with_file old name.Log file n
    elsewhere n other = others n other ∙ sym (with_else old name.Log file n other)

    each : (n : Name) → c n ≡ with_file old name.Log file n
    each name.Log = here
    each name.Index = elsewhere name.Index (λ e. cc)
    each name.Log2 = elsewhere name.Log2 (λ e. cc)
    each name.Cache = elsewhere name.Cache (λ e. cc)
    each (name.Mail k) = elsewhere (name.Mail k) (λ e. cc)

pub either_put : (old c : Folder) (file : Option (List ℕ)) → ChangesOnly name.Log (IsEither file) old c → (c ≡ old) ⊎ (c ≡ with_file old name.Log file)
either_put old c file step = ⊎_elim (λ same. inl (same_folders c old same step.others)) (λ put. inr (log_put old c file put step.others)) step.there

-- ---- causes

pub cause_then : {A B : Type 0} (before mid now : ℕ) (first : Result B OpenFault) (result : Result A OpenFault) → HasCause before mid first → HasCause mid now result → HasCause before now result
cause_then {A = A} before mid now first result one two = record { later = omega (arith, one.later, two.later); rose = by_result result two.rose }
  where
    by_result : (r : Result A OpenFault) → OnDisk r (λ faults. (faults ≡ now) × Rose mid now) → OnDisk r (λ faults. (faults ≡ now) × Rose before now)
    by_result (Err (fault.Disk faults)) rose = (rose.0, omega (arith, rose.1, one.later))
    by_result (Err fault.NoMemory) rose = tt
    by_result (Err fault.NoLog) rose = tt
    by_result (Err fault.BadLogHeader) rose = tt
    by_result (Err (fault.BadRecord offset)) rose = tt
    by_result (Err fault.BadIndex) rose = tt
    by_result (Err (fault.Gap index log)) rose = tt
    by_result (Ok x) rose = tt

-- behind calls of the disk comes what calls none
pub cause_still : {A B : Type 0} (before now : ℕ) (first : Result B OpenFault) (result : Result A OpenFault) → HasCause before now first → NoDisk result → HasCause before now result
cause_still {A = A} before now first result cause none = record { later = cause.later; rose = by_result result none }
  where
    by_result : (r : Result A OpenFault) → NoDisk r → OnDisk r (λ faults. (faults ≡ now) × Rose before now)
    by_result (Err (fault.Disk faults)) none = absurd none
    by_result (Err fault.NoMemory) none = tt
    by_result (Err fault.NoLog) none = tt
    by_result (Err fault.BadLogHeader) none = tt
    by_result (Err (fault.BadRecord offset)) none = tt
    by_result (Err fault.BadIndex) none = tt
    by_result (Err (fault.Gap index log)) none = tt
    by_result (Ok x) none = tt

-- the fault alone says whether the disk failed
pub unless_so : (A B P : Type 0) (e : OpenFault) → UnlessDisk {A = A} (Err e) P → UnlessDisk {A = B} (Err e) P
unless_so A B P (fault.Disk faults) is = tt
unless_so A B P fault.NoMemory is = is
unless_so A B P fault.NoLog is = is
unless_so A B P fault.BadLogHeader is = is
unless_so A B P (fault.BadRecord offset) is = is
unless_so A B P fault.BadIndex is = is
unless_so A B P (fault.Gap index log) is = is

module _ {S : Type 0} (sees : SeesFolder S) where
  abbrev Looks : S → S → Type 0
  Looks old new = OnlyLooks sees old new

  -- one read
  pub looked : (old new : S) → ((c : Folder) → sees.left_since old (sees.moment old) c → sees.may_leave old c) → sees.files new ≡ sees.files old → FollowsNone (sees.may_leave old) (sees.may_leave new)
      → Elapses (sees.moment old) (sees.moment new) (sees.left_since old) (sees.left_since new) (sees.may_leave new) → Looks old new
  looked old new only same none time = record {
    same = same;
    crash = none;
    since = goes_on sees old old new (sees.may_leave old) (sees.may_leave new) (started sees old (sees.may_leave old) only) time none;
  }

  -- a look and the next
  pub looked_both : (old mid new : S) → Looks old mid → Looks mid new → Looks old new
  looked_both old mid new one two = record {
    same = two.same ∙ one.same;
    crash = λ c left. one.crash c (two.crash c left);
    since = joined sees old mid new (sees.may_leave old) one.since (weaker sees mid new (sees.may_leave mid) (sees.may_leave old) two.since one.crash);
  }

  -- what was settled still is
  pub settled_still : (old new : S) → Only (sees.files old) (sees.may_leave old) → Looks old new → Only (sees.files new) (sees.may_leave new)
  settled_still old new only looks c left = only c (looks.crash c left) ∙ sym looks.same

  -- a look, and what comes behind it
  pub looked_then : (old mid new : S) (P : Folder → Type 0) → Only (sees.files old) (sees.may_leave old) → P (sees.files old) → Looks old mid → LeavesOnly sees mid new P → LeavesOnly sees old new P
  looked_then old mid new P only here looks since =
      joined sees old mid new P
      (weaker sees old mid (sees.may_leave old) P looks.since (λ c left. subst P (sym (only c left)) here)) since

  pub looked_only : (old new : S) (P : Folder → Type 0) → Only (sees.files old) (sees.may_leave old) → P (sees.files old) → Looks old new → LeavesOnly sees old new P
  looked_only old new P only here looks = weaker sees old new (sees.may_leave old) P looks.since (λ c left. subst P (sym (only c left)) here)

  -- nothing was called
  pub nothing_since : (old : S) (P : Folder → Type 0) → ((c : Folder) → sees.left_since old (sees.moment old) c → sees.may_leave old c) → Only (sees.files old) (sees.may_leave old) → P (sees.files old) → LeavesOnly sees old old P
  nothing_since old P now only here = started sees old P (λ c left. subst P (sym (only c (now c left))) here)

  -- the log was replaced, or the call failed
  pub replaced_since : (old new : S) (file : Option (List ℕ)) → ((c : Folder) → sees.left_since old (sees.moment old) c → sees.may_leave old c) → Only (sees.files old) (sees.may_leave old)
      → Elapses (sees.moment old) (sees.moment new) (sees.left_since old) (sees.left_since new) (sees.may_leave new) → Follows (ChangesOnly name.Log (IsEither file)) (sees.may_leave old) (sees.may_leave new)
      → LeavesOnly sees old new (λ c. (c ≡ sees.files old) ⊎ (c ≡ with_file (sees.files old) name.Log file))
  replaced_since old new file now only time follows =
      goes_on sees old old new (λ c. (c ≡ sees.files old) ⊎ (c ≡ with_file (sees.files old) name.Log file)) (sees.may_leave new)
      (nothing_since old (λ c. (c ≡ sees.files old) ⊎ (c ≡ with_file (sees.files old) name.Log file)) now only (inl refl)) time
      (λ c left.
      let from = follows c left in
      either_put (sees.files old) c file (subst (λ (d : Folder). ChangesOnly name.Log (IsEither file) d c) (only from.0 from.1) from.2))

  -- behind Ok it is durable
  pub replaced_settled : (old new : S) (file : Option (List ℕ)) → Only (sees.files old) (sees.may_leave old) → sees.files new ≡ with_file (sees.files old) name.Log file
      → Follows (ChangesOnly name.Log (IsEither file)) (sees.may_leave old) (sees.may_leave new) → ((c : Folder) → sees.may_leave new c → c name.Log ≡ file) → Only (sees.files new) (sees.may_leave new)
  replaced_settled old new file only is follows durable c left =
      let from = follows c left in
      let step = subst (λ (d : Folder). ChangesOnly name.Log (IsEither file) d c) (only from.0 from.1) from.2 in
      log_put (sees.files old) c file (durable c left) step.others ∙ sym is
