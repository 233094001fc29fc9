-- Calls of a system, one behind the other.
use Rattle.std.proofs.Common.{◌≡◌, ◌⊎◌, inl, inr, ⊎_elim, ℕ, ◌≤◌, List, length, Option, Some, Result, Ok, Err, IsErr, OnOk, OnErr, refl, sym, ◌∙◌, ap, subst, arith}
use Rattle.dv_shelf.specs.declared.shelf.Name.{Name}
use Rattle.dv_shelf.specs.Folders.{Folder, with_file, contents, patched, ChangesOnly, TornFile, IsEither}
use Rattle.dv_shelf.specs.Crashes.{Follows, FollowsNone, Elapses}
use Rattle.dv_shelf.proofs.ShelfLemmas.{same_torn}
use Rattle.dv_shelf.proofs.FolderLemmas.{nothing_changes}
use Rattle.dv_system.specs.Disks.{Disk, LeftBy, files_of}
use Rattle.dv_disk.specs.Steps.{IsQuiet, Puts, Writes}

module _ {S : Type 0} (moment : S → ℕ) (left_since : S → ℕ → Folder → Type 0) where
  -- one call behind others
  pub elapses_on : (old mid new : S) (P Q R : Folder → Type 0)
      → Elapses (moment old) (moment mid) (left_since old) (left_since mid) P
      → Elapses (moment mid) (moment new) (left_since mid) (left_since new) Q
      → ((c : Folder) → P c → R c) → ((c : Folder) → Q c → R c)
      → Elapses (moment old) (moment new) (left_since old) (left_since new) R
  elapses_on old mid new P Q R first second p q = record {
    later = omega (arith, first.later, second.later);
    nothing_else = λ t c le left.
        ⊎_elim (λ before. ⊎_elim inl (λ is. inr (p c is)) (first.nothing_else t c le before)) (λ is. inr (q c is))
        (second.nothing_else t c (omega (arith, le, first.later)) left);
    keeps = λ t c le past. second.keeps t c (omega (arith, le, first.later)) (first.keeps t c le past);
  }

  -- what a crash may leave at the start it might have left before
  pub elapses_in : (old new : S) (P Q R : Folder → Type 0)
      → ((t : ℕ) (c : Folder) → t ≤ moment old → Q c → left_since old t c)
      → Elapses (moment old) (moment new) (left_since old) (left_since new) P
      → ((c : Folder) → P c → Q c ⊎ R c)
      → Elapses (moment old) (moment new) (left_since old) (left_since new) R
  elapses_in old new P Q R now time either = record {
    later = time.later;
    nothing_else = λ t c le left. ⊎_elim inl (λ is. ⊎_elim (λ q. inl (now t c le q)) inr (either c is)) (time.nothing_else t c le left);
    keeps = time.keeps;
  }

  module _ (disk : S → Disk) (now : (s : S) (t : ℕ) (c : Folder) → t ≤ moment s → LeftBy (disk s) c → left_since s t c) where
    abbrev Quiet : S → S → Type 0
    Quiet = IsQuiet disk moment left_since

    -- one call that changes nothing
    pub quiet : (old new : S) → files_of (disk new) ≡ files_of (disk old) → FollowsNone (LeftBy (disk old)) (LeftBy (disk new))
        → Elapses (moment old) (moment new) (left_since old) (left_since new) (LeftBy (disk new)) → Quiet old new
    quiet old new same none time = record {
      files = same;
      crash = none;
      time = elapses_in old new (LeftBy (disk new)) (LeftBy (disk old)) (LeftBy (disk old)) (now old) time (λ c is. inr (none c is));
    }

    pub quiet_same : (old new : S) → disk new ≡ disk old
        → Elapses (moment old) (moment new) (left_since old) (left_since new) (LeftBy (disk new)) → Quiet old new
    quiet_same old new same time =
        quiet old new (ap files_of same) (λ c left. subst (λ (d : Disk). LeftBy d c) same left) time

    pub no_call : (old : S) → Quiet old old
    no_call old = record {
      files = refl;
      crash = λ c left. left;
      time = record { later = omega arith; nothing_else = λ t c le left. inl left; keeps = λ t c le past. past };
    }

    pub quiet_on : (old mid new : S) → Quiet old mid → Quiet mid new → Quiet old new
    quiet_on old mid new first second = record {
      files = second.files ∙ first.files;
      crash = λ c left. first.crash c (second.crash c left);
      time = elapses_on old mid new (LeftBy (disk old)) (LeftBy (disk mid)) (LeftBy (disk old)) first.time second.time (λ c is. is) first.crash;
    }

    -- what comes behind quiet calls
    pub elapses_behind : (old mid new : S) (R : Folder → Type 0) → Quiet old mid
        → Elapses (moment mid) (moment new) (left_since mid) (left_since new) R
        → Elapses (moment old) (moment new) (left_since old) (left_since new) R
    elapses_behind old mid new R first time =
        elapses_in old new (λ c. LeftBy (disk old) c ⊎ R c) (LeftBy (disk old)) R (now old)
        (elapses_on old mid new (LeftBy (disk old)) R (λ c. LeftBy (disk old) c ⊎ R c) first.time time (λ c is. inl is) (λ c is. inr is)) (λ c is. is)

    follows_behind : (old mid new : S) (step : Folder → Folder → Type 0) → Quiet old mid
        → Follows step (LeftBy (disk mid)) (LeftBy (disk new)) → Follows step (LeftBy (disk old)) (LeftBy (disk new))
    follows_behind old mid new step first crash c left =
        let was = crash c left in
        (was.0, first.crash was.0 was.1, was.2)

    pub puts_behind : {T E : Type 0} (old mid new : S) (name : Name) (that : Option (List ℕ)) (r : Result T E) → Quiet old mid
        → Puts disk moment left_since name that r mid new → Puts disk moment left_since name that r old new
    puts_behind {T} {E} old mid new name that r first second = record {
      ok = subst (λ (f : Folder). OnOk r (files_of (disk new) ≡ with_file f name that)) first.files second.ok;
      err = subst (λ (f : Folder). OnErr r (ChangesOnly name (IsEither that) f (files_of (disk new)))) first.files second.err;
      durable = second.durable;
      crash = follows_behind old mid new (ChangesOnly name (IsEither that)) first second.crash;
      time = elapses_behind old mid new (LeftBy (disk new)) first second.time;
    }

    pub writes_behind : {T E : Type 0} (old mid new : S) (name : Name) (at : ℕ) (bytes : List ℕ) (r : Result T E) → Quiet old mid
        → Writes disk moment left_since name at bytes r mid new → Writes disk moment left_since name at bytes r old new
    writes_behind {T} {E} old mid new name at bytes r first second = record {
      ok = subst (λ (f : Folder). OnOk r (files_of (disk new) ≡ with_file f name (Some (patched (contents f name) at bytes)))) first.files second.ok;
      err = subst (λ (f : Folder). OnErr r (ChangesOnly name (TornFile at (length bytes)) f (files_of (disk new)))) first.files second.err;
      crash = follows_behind old mid new (ChangesOnly name (TornFile at (length bytes))) first second.crash;
      time = elapses_behind old mid new (LeftBy (disk new)) first second.time;
    }

    -- calls that failed before anything changed

    time_to : (old new : S) → Quiet old new → Elapses (moment old) (moment new) (left_since old) (left_since new) (LeftBy (disk new))
    time_to old new is = elapses_in old new (LeftBy (disk old)) (LeftBy (disk old)) (LeftBy (disk new)) (now old) is.time (λ c left. inl left)

    same_changes : (old new : S) (name : Name) (step : Option (List ℕ) → Option (List ℕ) → Type 0) → ((file : Option (List ℕ)) → step file file)
        → Quiet old new → ChangesOnly name step (files_of (disk old)) (files_of (disk new))
    same_changes old new name step same is =
        subst (ChangesOnly name step (files_of (disk old))) (sym is.files) (nothing_changes (files_of (disk old)) name step (same (files_of (disk old) name)))

    same_follows : (old new : S) (name : Name) (step : Option (List ℕ) → Option (List ℕ) → Type 0) → ((file : Option (List ℕ)) → step file file)
        → Quiet old new → Follows (ChangesOnly name step) (LeftBy (disk old)) (LeftBy (disk new))
    same_follows old new name step same is c left = (c, is.crash c left, nothing_changes c name step (same (c name)))

    pub puts_nothing : {T E : Type 0} (old new : S) (name : Name) (that : Option (List ℕ)) (r : Result T E) → IsErr r → Quiet old new
        → Puts disk moment left_since name that r old new
    puts_nothing old new name that (Ok x) failed is = absurd (cc)
    puts_nothing old new name that (Err e) failed is = record {
      ok = tt;
      err = same_changes old new name (IsEither that) (λ file. inl refl) is;
      durable = tt;
      crash = same_follows old new name (IsEither that) (λ file. inl refl) is;
      time = time_to old new is;
    }

    pub writes_nothing : {T E : Type 0} (old new : S) (name : Name) (at : ℕ) (bytes : List ℕ) (r : Result T E) → IsErr r → Quiet old new
        → Writes disk moment left_since name at bytes r old new
    writes_nothing old new name at bytes (Ok x) failed is = absurd (cc)
    writes_nothing old new name at bytes (Err e) failed is = record {
      ok = tt;
      err = same_changes old new name (TornFile at (length bytes)) (same_torn at (length bytes)) is;
      crash = same_follows old new name (TornFile at (length bytes)) (same_torn at (length bytes)) is;
      time = time_to old new is;
    }
