-- What single calls do to the entries.
use Rattle.std.proofs.Common.{◌≡◌, ◌⊎◌, inl, inr, ℕ, ◌≤◌, Bool, true, false, ◌+◌, List, [], ◌∷◌, ◌++◌, length, Option, Some, None, Result, Ok, Err, IsErr, OnOk, OnErr, refl, sym, ◌∙◌, ap, subst, arith}
use Rattle.std.proofs.lemmas.List.{append-nil, drop_all}
use Rattle.std.proofs.lemmas.Result.{err_from_is_err_and}
use Rattle.std.specs.Prelude.{is_err, IsErrAnd}
use Rattle.dv_shelf.specs.declared.shelf.Name.{Name}
use Rattle.dv_shelf.specs.Folders.{Folder, patched, ChangesOnly, IsEither}
use Rattle.dv_shelf.specs.Crashes.{FollowsNone, Elapses}
use Rattle.dv_shelf.specs.Disks.{Version, Gone, settled_version}
use Rattle.dv_system.specs.declared.system.Entry.TheVariants as entry
use Rattle.dv_system.specs.Entries.{At, empty_file, put_at, hidden_at, written_at, swept_at, unsure_at, synced_at, doubted_at, read_at, IsEntryImage}
use Rattle.dv_system.specs.Disks.{Disk, changed, changed_names, renamed, with_place, made_place, doubted_place, with_named, may_vanish, files_of, IsOneOf, IsUnchangedOr, LeftBy, Unlinks}
use Rattle.dv_system.proofs.Named.{named_here, named_else}
use Rattle.dv_disk.specs.States.{sweeps}
use Rattle.dv_disk.specs.Steps.{IsDurable, IsQuiet, LeavesNames, OnlyAt, Puts}
use Rattle.dv_disk.proofs.Runs.{elapses_on, quiet, quiet_same}
use Rattle.dv_disk.proofs.Places.{alike, alike_on, is_alike, swept_alike}
use Rattle.dv_disk.proofs.Readying.{place_quiet, names_quiet, made_vanishes, doubted_vanishes, swept_narrows, unsure_narrows}

-- a call whose error is passed on
pub passed : {T E : Type 0} (r : Result T E) (Q : E → Type 0) → IsErrAnd r Q → IsErr r
passed r Q is = ap is_err (err_from_is_err_and r is).1

-- ---- the entry of one name

pub changed_at : (f : At → At) (old : Disk) (name : Name) → OnlyAt name (f (old.named name)) old (changed f old (entry.File name))
changed_at f old name = record {
  place = refl;
  here = is_alike _ _ (named_here old.named name (f (old.named name)));
  others = λ n other. is_alike _ _ (named_else old.named name (f (old.named name)) n other);
}

pub same_at : (old : Disk) (name : Name) → OnlyAt name (old.named name) old old
same_at old name = record { place = refl; here = alike (old.named name); others = λ n other. alike (old.named n) }

pub only_is : (name : Name) (at : At) (old : Disk) (a b : Disk) → a ≡ b → OnlyAt name at old b → OnlyAt name at old a
only_is name at old a b same only = subst (λ (d : Disk). OnlyAt name at old d) (sym same) only

pub put_there : (old : Disk) (name : Name) (v : Version) (b : Bool) → OnlyAt name (put_at v b (old.named name)) old (changed (put_at v b) old (entry.File name))
put_there old name v b = changed_at (put_at v b) old name

pub renamed_there : (old : Disk) (name : Name) → OnlyAt name (put_at old.temporary.first old.temporary.is_doubted (old.named name)) old (renamed old name)
renamed_there old name =
    let at = put_at old.temporary.first old.temporary.is_doubted (old.named name) in
    record {
      place = refl;
      here = is_alike _ _ (named_here old.named name at);
      others = λ n other. is_alike _ _ (named_else old.named name at n other);
    }

-- what a failed call may have left
abbrev pub IsMaybeAt : Name → At → At → Disk → Disk → Type 0
IsMaybeAt name shown hidden old new =
    OnlyAt name (old.named name) old new ⊎ (OnlyAt name shown old new ⊎ OnlyAt name hidden old new)

pub unlink_failed : (old new : Disk) (name : Name) → IsOneOf old (changed (put_at Gone false) old (entry.File name)) (changed (hidden_at Gone) old (entry.File name)) new
    → IsMaybeAt name (put_at Gone false (old.named name)) (hidden_at Gone (old.named name)) old new
unlink_failed old new name (inl is) = inl (only_is name _ old new _ is (same_at old name))
unlink_failed old new name (inr (inl is)) = inr (inl (only_is name _ old new _ is (changed_at (put_at Gone false) old name)))
unlink_failed old new name (inr (inr is)) = inr (inr (only_is name _ old new _ is (changed_at (hidden_at Gone) old name)))

rename_failed' : (old new : Disk) (name : Name) → IsOneOf old (renamed old name) (changed (hidden_at old.temporary.first) old (entry.File name)) new
    → IsMaybeAt name (put_at old.temporary.first old.temporary.is_doubted (old.named name)) (hidden_at old.temporary.first (old.named name)) old new
rename_failed' old new name (inl is) = inl (only_is name _ old new _ is (same_at old name))
rename_failed' old new name (inr (inl is)) = inr (inl (only_is name _ old new _ is (renamed_there old name)))
rename_failed' old new name (inr (inr is)) = inr (inr (only_is name _ old new _ is (changed_at (hidden_at old.temporary.first) old name)))

-- the temporary file is durable
pub rename_failed : (old new : Disk) (name : Name) (that : Option (List ℕ)) → IsDurable old.temporary that
    → IsOneOf old (renamed old name) (changed (hidden_at old.temporary.first) old (entry.File name)) new
    → IsMaybeAt name (put_at (settled_version that) old.temporary.is_doubted (old.named name)) (hidden_at (settled_version that) (old.named name)) old new
rename_failed old new name that durable is =
    subst (λ (v : Version). IsMaybeAt name (put_at v old.temporary.is_doubted (old.named name)) (hidden_at v (old.named name)) old new) durable.first
    (rename_failed' old new name is)

pub renamed_at : (old new : Disk) (name : Name) (that : Option (List ℕ)) → IsDurable old.temporary that → new ≡ renamed old name
    → OnlyAt name (put_at (settled_version that) old.temporary.is_doubted (old.named name)) old new
renamed_at old new name that durable is =
    subst (λ (v : Version). OnlyAt name (put_at v old.temporary.is_doubted (old.named name)) old new) durable.first
    (only_is name _ old new _ is (renamed_there old name))

-- ---- and then a sync of the folder

module _ (named : Name → At) (name : Name) (at : At) (old : Disk) (is : old.named ≡ named) where
  swept_all : (mid : Disk) → mid.place ≡ old.place → mid.named ≡ with_named named name at → ((n : Name) → sweeps (old.named n) ≡ true)
      → OnlyAt name (swept_at at) old (changed_names swept_at mid)
  swept_all mid place changed all = record {
    place = place;
    here = is_alike _ _ (ap (λ (m : Name → At). swept_at (m name)) changed ∙ ap swept_at (named_here named name at));
    others = λ n other.
        let same : mid.named n ≡ old.named n = ap (λ (m : Name → At). m n) changed ∙ named_else named name at n other ∙ sym (ap (λ (m : Name → At). m n) is) in
        alike_on _ (swept_at (old.named n)) _ (is_alike _ _ (ap swept_at same)) (swept_alike (old.named n) (all n));
  }

  mid_all : (mid : Disk) → mid.place ≡ old.place → mid.named ≡ with_named named name at → OnlyAt name at old mid
  mid_all mid place changed = record {
    place = place;
    here = is_alike _ _ (ap (λ (m : Name → At). m name) changed ∙ named_here named name at);
    others = λ n other. is_alike _ _ (ap (λ (m : Name → At). m n) changed ∙ named_else named name at n other ∙ sym (ap (λ (m : Name → At). m n) is));
  }

  unsure_all : (mid : Disk) → mid.place ≡ old.place → mid.named ≡ with_named named name at → OnlyAt name at old (changed_names unsure_at mid)
  unsure_all mid place changed = record {
    place = place;
    here = alike_on _ (mid.named name) _ (record { first = refl; others = refl }) (is_alike _ _ (ap (λ (m : Name → At). m name) changed ∙ named_here named name at));
    others = λ n other.
        let same : mid.named n ≡ old.named n = ap (λ (m : Name → At). m n) changed ∙ named_else named name at n other ∙ sym (ap (λ (m : Name → At). m n) is) in
        alike_on _ (mid.named n) _ (record { first = refl; others = refl }) (is_alike _ _ same);
  }

module _ (old mid new : Disk) (name : Name) (at : At) (place : mid.place ≡ old.place) (named : mid.named ≡ with_named old.named name at)
    (all : (n : Name) → sweeps (old.named n) ≡ true) where
  pub swept_there : {T E : Type 0} (r : Result T E) → OnOk r (new ≡ changed_names swept_at mid) → OnOk r (OnlyAt name (swept_at at) old new)
  swept_there (Ok x) is = only_is name _ old new _ is (swept_all old.named name at old refl mid place named all)
  swept_there (Err e) is = tt

  pub unsure_there : {T E : Type 0} (r : Result T E) → OnErr r (IsUnchangedOr mid (changed_names unsure_at mid) new) → OnErr r (OnlyAt name at old new)
  unsure_there (Ok x) is = tt
  unsure_there (Err e) (inl is) = only_is name _ old new _ is (mid_all old.named name at old refl mid place named)
  unsure_there (Err e) (inr is) = only_is name _ old new _ is (unsure_all old.named name at old refl mid place named)

-- the entries behind each
pub renamed_names : (old new : Disk) (name : Name) (that : Option (List ℕ)) → IsDurable old.temporary that → new ≡ renamed old name
    → new.named ≡ with_named old.named name (put_at (settled_version that) old.temporary.is_doubted (old.named name))
renamed_names old new name that durable is =
    subst (λ (v : Version). new.named ≡ with_named old.named name (put_at v old.temporary.is_doubted (old.named name))) durable.first (ap (λ (d : Disk). d.named) is)

pub unlinked_names : (old new : Disk) (name : Name) → new ≡ changed (put_at Gone false) old (entry.File name)
    → new.named ≡ with_named old.named name (put_at Gone false (old.named name))
unlinked_names old new name is = ap (λ (d : Disk). d.named) is

pub same_place : (old new other : Disk) → new ≡ other → other.place ≡ old.place → new.place ≡ old.place
same_place old new other is place = ap (λ (d : Disk). d.place) is ∙ place

pub unlinked : (was : Bool) (name : Name) (old new : Disk) → was ≡ true → Unlinks was (entry.File name) old new → new ≡ changed (put_at Gone false) old (entry.File name)
unlinked true name old new e is = is
unlinked false name old new e is = absurd (cc)

pub not_there : (was : Bool) (name : Name) (old new : Disk) → was ≡ false → Unlinks was (entry.File name) old new → (new ≡ old) × (read_at (old.named name) ≡ None)
not_there true name old new e is = absurd (cc)
not_there false name old new e is = is

-- ---- calls that change the temporary file alone

pub temporary_changed : (f : At → At) (old new : Disk) → new ≡ changed f old entry.Temporary → LeavesNames old new
temporary_changed f old new is = record { place = ap (λ (d : Disk). d.place) is; named = ap (λ (d : Disk). d.named) is }

pub temporary_same : (old new : Disk) → new ≡ old → LeavesNames old new
temporary_same old new is = record { place = ap (λ (d : Disk). d.place) is; named = ap (λ (d : Disk). d.named) is }

-- bytes were written over it, or none
pub temporary_written : (bytes : List ℕ) (old new : Disk) → (length bytes ≡ 0 → new ≡ old) → (1 ≤ length bytes → new ≡ changed (written_at 0 (length bytes) bytes) old entry.Temporary) → LeavesNames old new
temporary_written [] old new none some = temporary_same old new (none refl)
temporary_written (b ∷ bytes) old new none some = temporary_changed (written_at 0 (length (b ∷ bytes)) (b ∷ bytes)) old new (some (omega arith))

whole : (bytes : List ℕ) → patched [] 0 bytes ≡ bytes
whole bytes = ap (λ (l : List ℕ). bytes ++ l) (drop_all (0 + length bytes) [] (omega arith)) ∙ append-nil bytes

-- it was made, written and synced
pub temporary_durable : {T E : Type 0} (r : Result T E) (bytes : List ℕ) (old made wrote new : Disk) → made ≡ changed (put_at empty_file false) old entry.Temporary
    → (length bytes ≡ 0 → wrote ≡ made) → (1 ≤ length bytes → wrote ≡ changed (written_at 0 (length bytes) bytes) made entry.Temporary)
    → OnOk r (new ≡ changed synced_at wrote entry.Temporary) → OnOk r (IsDurable new.temporary (Some bytes))
temporary_durable (Err e) bytes old made wrote new is none some synced = tt
temporary_durable (Ok x) [] old made wrote new is none some synced =
    let at : new.temporary ≡ synced_at (put_at empty_file false old.temporary) =
    ap (λ (d : Disk). d.temporary) synced ∙ ap (λ (d : Disk). synced_at d.temporary) (none refl ∙ is) in
    record { first = ap (λ (a : At). a.first) at; sure = ap (λ (a : At). a.is_doubted) at }
temporary_durable (Ok x) (b ∷ bytes) old made wrote new is none some synced =
    let all = b ∷ bytes in
    let n = length all in
    let at : new.temporary ≡ synced_at (written_at 0 n all (put_at empty_file false old.temporary)) =
    ap (λ (d : Disk). d.temporary) synced ∙ ap (λ (d : Disk). synced_at d.temporary) (some (omega arith)) ∙ ap (λ (d : Disk). synced_at (written_at 0 n all d.temporary)) is in
    record {
      first = ap (λ (a : At). a.first) at ∙ ap (λ (l : List ℕ). settled_version (Some l)) (whole all);
      sure = ap (λ (a : At). a.is_doubted) at;
    }

pub temporary_synced : {T E : Type 0} (r : Result T E) (old new : Disk) → OnOk r (new ≡ changed synced_at old entry.Temporary) → OnErr r (IsUnchangedOr old (changed doubted_at old entry.Temporary) new)
    → LeavesNames old new
temporary_synced (Ok x) old new ok err = temporary_changed synced_at old new ok
temporary_synced (Err e) old new ok (inl is) = temporary_same old new is
temporary_synced (Err e) old new ok (inr is) = temporary_changed doubted_at old new is

pub temporary_failed : (f h : At → At) (old new : Disk) → IsOneOf old (changed f old entry.Temporary) (changed h old entry.Temporary) new → LeavesNames old new
temporary_failed f h old new (inl is) = temporary_same old new is
temporary_failed f h old new (inr (inl is)) = temporary_changed f old new is
temporary_failed f h old new (inr (inr is)) = temporary_changed h old new is

names_same : (old new : Disk) → LeavesNames old new → FollowsNone (LeftBy old) (LeftBy new)
unfolding LeftBy
names_same old new same c (inl images) = inl (λ n. subst (λ (m : Name → At). IsEntryImage (m n) (c n)) same.named (images n))
names_same old new same c (inr gone) = inr (ap may_vanish (sym same.place) ∙ gone.0, gone.1)

module _ {S : Type 0} (disk : S → Disk) (moment : S → ℕ) (left_since : S → ℕ → Folder → Type 0)
    (now : (s : S) (t : ℕ) (c : Folder) → t ≤ moment s → LeftBy (disk s) c → left_since s t c) (old new : S)
    (time : Elapses (moment old) (moment new) (left_since old) (left_since new) (LeftBy (disk new))) where
  pub beside : LeavesNames (disk old) (disk new) → IsQuiet disk moment left_since old new
  beside same =
      quiet moment left_since disk now old new (ap (λ (m : Name → At). λ (n : Name). read_at (m n)) same.named) (names_same (disk old) (disk new) same) time

  -- the folder wasn't made, or was
  pub folder_failed : IsOneOf (disk old) (with_place made_place (disk old)) (with_place made_place (disk old)) (disk new) → IsQuiet disk moment left_since old new
  folder_failed (inl is) = quiet_same moment left_since disk now old new is time
  folder_failed (inr (inl is)) = place_quiet disk moment left_since now old new made_place made_vanishes is time
  folder_failed (inr (inr is)) = place_quiet disk moment left_since now old new made_place made_vanishes is time

  -- one of the two
  pub folder_quiet : {T E : Type 0} (r : Result T E) → OnOk r (disk new ≡ with_place made_place (disk old)) → OnErr r (IsOneOf (disk old) (with_place made_place (disk old)) (with_place made_place (disk old)) (disk new))
      → IsQuiet disk moment left_since old new
  folder_quiet (Ok x) ok err = place_quiet disk moment left_since now old new made_place made_vanishes ok time
  folder_quiet (Err e) ok err = folder_failed err

  -- a sync of the folder
  pub sweep_quiet : {T E : Type 0} (r : Result T E) → OnOk r (disk new ≡ changed_names swept_at (disk old)) → OnErr r (IsUnchangedOr (disk old) (changed_names unsure_at (disk old)) (disk new))
      → IsQuiet disk moment left_since old new
  sweep_quiet (Ok x) ok err = names_quiet disk moment left_since now old new swept_at (λ at. refl) swept_narrows ok time
  sweep_quiet (Err e) ok (inl is) = quiet_same moment left_since disk now old new is time
  sweep_quiet (Err e) ok (inr is) = names_quiet disk moment left_since now old new unsure_at (λ at. refl) unsure_narrows is time

  -- a sync of the parent that failed
  pub parent_failed : IsUnchangedOr (disk old) (with_place doubted_place (disk old)) (disk new) → IsQuiet disk moment left_since old new
  parent_failed (inl is) = quiet_same moment left_since disk now old new is time
  parent_failed (inr is) = place_quiet disk moment left_since now old new doubted_place doubted_vanishes is time

-- a call that was to put a file there failed, and then the temporary file was removed, or not
pub puts_cleared : {S T E : Type 0} (disk : S → Disk) (moment : S → ℕ) (left_since : S → ℕ → Folder → Type 0) (name : Name) (that : Option (List ℕ)) (old mid new : S) (r : Result T E) → IsErr r
    → Puts disk moment left_since name that r old mid → LeavesNames (disk mid) (disk new)
    → Elapses (moment mid) (moment new) (left_since mid) (left_since new) (LeftBy (disk new)) → Puts disk moment left_since name that r old new
puts_cleared disk moment left_since name that old mid new (Ok x) failed first same time = absurd (cc)
puts_cleared disk moment left_since name that old mid new (Err e) failed first same time =
    let files : files_of (disk new) ≡ files_of (disk mid) = ap (λ (m : Name → At). λ (n : Name). read_at (m n)) same.named in
    let back : LeavesNames (disk new) (disk mid) = record { place = sym same.place; named = sym same.named } in
    record {
      ok = tt;
      err = subst (λ (f : Folder). ChangesOnly name (IsEither that) (files_of (disk old)) f) (sym files) first.err;
      durable = tt;
      crash = λ c left. first.crash c (names_same (disk mid) (disk new) same c left);
      time = elapses_on moment left_since old mid new (LeftBy (disk mid)) (LeftBy (disk new)) (LeftBy (disk new)) first.time time (names_same (disk new) (disk mid) back) (λ c left. left);
    }
