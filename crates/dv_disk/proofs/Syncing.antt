-- A file is made durable, by a sync or by a file that takes its place.
use Rattle.std.proofs.Common.{◌≡◌, inl, inr, ⊎_elim, ℕ, ◌≤◌, Bool, true, false, not, ◌&&◌, cond, List, Option, Some, None, Result, Ok, Err, IsErr, OnOk, OnErr, refl, sym, ◌∙◌, ap, subst}
use Rattle.std.proofs.Math.Path.{fun_ext}
use Rattle.dv_shelf.specs.declared.shelf.Name.{Name}
use Rattle.dv_shelf.specs.Folders.{Folder, with_file, ChangesOnly, IsEither}
use Rattle.dv_shelf.specs.Crashes.{FollowsNone, Elapses}
use Rattle.dv_shelf.specs.Disks.{Version, version_bytes, settled_version}
use Rattle.dv_shelf.specs.Images.{IsFileImage}
use Rattle.dv_shelf.proofs.DiskLemmas.{settled_reads}
use Rattle.dv_shelf.proofs.FolderLemmas.{with_same}
use Rattle.dv_system.specs.declared.system.Entry.TheVariants as entry
use Rattle.dv_system.specs.Entries.{At, read_at, synced_at, doubted_at, IsEntryImage}
use Rattle.dv_system.specs.Disks.{Disk, LeftBy, IsReadable, IsUnchangedOr, changed, files_of}
use Rattle.dv_system.proofs.Named.{by_names}
use Rattle.dv_disk.specs.States.{is_firm, sweeps, trusts}
use Rattle.dv_disk.specs.Steps.{IsQuiet, OnlyAt, Puts, Syncs}
use Rattle.dv_disk.proofs.Runs.{no_call, puts_behind, quiet, quiet_on, quiet_same}
use Rattle.dv_disk.proofs.Places.{at_each, firm_left, image_here, images_left, only_none, only_reads}
use Rattle.dv_disk.proofs.Putting.{gone_only, none_back, settled_image}
use Rattle.dv_disk.proofs.Calls.{changed_at, only_is}

-- ---- the entry of a file that is synced

doubted_first : (doubted : Bool) (first : Version) (file : Option (List ℕ)) → IsFileImage first (version_bytes first) → IsFileImage (cond doubted first (settled_version (version_bytes first))) file → IsFileImage first file
doubted_first true first file readable is = is
doubted_first false first file readable is = subst (IsFileImage first) (sym (settled_image (version_bytes first) file is)) readable

synced_narrows : (at : At) (file : Option (List ℕ)) → IsFileImage at.first (read_at at) → IsEntryImage (synced_at at) file → IsEntryImage at file
synced_narrows at file readable (inl is) = inl (doubted_first at.is_doubted at.first file readable is)
synced_narrows at file readable (inr is) = inr is

doubted_reads : (doubted : Bool) (first : Version) → version_bytes (cond doubted first (settled_version (version_bytes first))) ≡ version_bytes first
doubted_reads true first = refl
doubted_reads false first = settled_reads (version_bytes first)

first_only : (doubted unsure : Bool) (first : Version) (file : Option (List ℕ)) → not doubted && not unsure ≡ true → IsFileImage (cond doubted first (settled_version (version_bytes first))) file → file ≡ version_bytes first
first_only true unsure first file sure is = absurd (cc)
first_only false unsure first file sure is = settled_image (version_bytes first) file is

synced_only : (at : At) (file : Option (List ℕ)) → sweeps at ≡ true → trusts at ≡ true → IsEntryImage (synced_at at) file → file ≡ read_at at
synced_only at file swept sure (inl is) = first_only at.is_doubted at.is_unsure at.first file sure is
synced_only at file swept sure (inr is) = absurd (none_back at.is_unsure at.is_doubted at.others file swept sure is)

module _ {S : Type 0} (disk : S → Disk) (moment : S → ℕ) (left_since : S → ℕ → Folder → Type 0)
    (now : (s : S) (t : ℕ) (c : Folder) → t ≤ moment s → LeftBy (disk s) c → left_since s t c)
    (name : Name) (old : S) (firm : is_firm (disk old).place ≡ true) (readable : IsReadable (disk old)) where
  abbrev at_old : At
  at_old = (disk old).named name

  abbrev Time : S → Type 0
  Time new = Elapses (moment old) (moment new) (left_since old) (left_since new) (LeftBy (disk new))

  same_files : (new : S) (at : At) → OnlyAt name at (disk old) (disk new) → read_at at ≡ read_at at_old → files_of (disk new) ≡ files_of (disk old)
  same_files new at only reads = only_reads name at (disk old) (disk new) only (read_at at_old) reads ∙ with_same (files_of (disk old)) name

  one_quiet : (new : S) (at : At) → OnlyAt name at (disk old) (disk new) → read_at at ≡ read_at at_old → ((file : Option (List ℕ)) → IsEntryImage at file → IsEntryImage at_old file)
      → Time new → IsQuiet disk moment left_since old new
  one_quiet new at only reads narrows time =
      quiet moment left_since disk now old new (same_files new at only reads) (only_none name at (disk old) (disk new) only firm narrows) time

  -- a sync of the file
  pub synced : {T E : Type 0} (r : Result T E) (new : S) → sweeps at_old ≡ true → trusts at_old ≡ true
      → OnOk r (disk new ≡ changed synced_at (disk old) (entry.File name)) → OnErr r (IsUnchangedOr (disk old) (changed doubted_at (disk old) (entry.File name)) (disk new))
      → Time new → Syncs disk moment left_since name r old new
  synced (Ok x) new swept sure ok err time =
      let only = only_is name _ _ _ _ ok (changed_at synced_at (disk old) name) in
      let reads = doubted_reads at_old.is_doubted at_old.first in
      record {
        durable = λ c left.
            synced_only at_old (c name) swept sure (image_here name _ (disk old) (disk new) only (c name) (firm_left (disk new) c (ap is_firm only.place ∙ firm) left name))
            ∙ sym (ap (λ (f : Folder). f name) (same_files new _ only reads));
        quiet = one_quiet new _ only reads (λ file is. synced_narrows at_old file (readable name) is) time;
      }
  synced (Err e) new swept sure ok (inl is) time =
      record { durable = tt; quiet = quiet_same moment left_since disk now old new is time }
  synced (Err e) new swept sure ok (inr is) time =
      let only = only_is name _ _ _ _ is (changed_at doubted_at (disk old) name) in
      record { durable = tt; quiet = one_quiet new _ only refl (λ file is. is) time }

  -- a missing file
  pub missing : {T E : Type 0} (r : Result T E) → read_at at_old ≡ None → sweeps at_old ≡ true → trusts at_old ≡ true → Syncs disk moment left_since name r old old
  missing r none swept sure = record { durable = gone r; quiet = no_call moment left_since disk now old }
    where
      gone : {T E : Type 0} (r : Result T E) → OnOk r ((c : Folder) → LeftBy (disk old) c → c name ≡ files_of (disk old) name)
      gone (Ok x) = λ c left. gone_only at_old none swept sure (c name) (firm_left (disk old) c firm left name) ∙ sym none
      gone (Err e) = tt

  -- a file that is replaced by its own bytes
  module _ {T E : Type 0} (r : Result T E) (new : S) (that : Option (List ℕ)) (is : that ≡ read_at at_old) (puts : Puts disk moment left_since name that r old new) where
    kept_files : files_of (disk new) ≡ files_of (disk old)
    kept_files = by_result r puts.ok puts.err
      where
        there : (file : Option (List ℕ)) → IsEither that (read_at at_old) file → file ≡ read_at at_old
        there file either = ⊎_elim (λ same. same) (λ same. same ∙ is) either

        by_result : (r : Result T E) → OnOk r (files_of (disk new) ≡ with_file (files_of (disk old)) name that)
            → OnErr r (ChangesOnly name (IsEither that) (files_of (disk old)) (files_of (disk new))) → files_of (disk new) ≡ files_of (disk old)
        by_result (Ok x) ok err = ok ∙ ap (with_file (files_of (disk old)) name) is ∙ with_same (files_of (disk old)) name
        by_result (Err e) ok err = fun_ext (λ n. ⊎_elim (λ same. here n same) (err.others n) (by_names n name))
          where
            here : (n : Name) → n ≡ name → files_of (disk new) n ≡ files_of (disk old) n
            here n same =
                let P : Name → Type 0 = λ m. files_of (disk new) m ≡ files_of (disk old) m in
                subst P (sym same) (there (files_of (disk new) name) err.there)

    kept_crash : FollowsNone (LeftBy (disk old)) (LeftBy (disk new))
    kept_crash c left =
        let was = puts.crash c left in
        let images = firm_left (disk old) was.0 firm was.1 in
        let change = was.2 in
        images_left (disk old) c (at_each (disk old) name c (λ n other. subst (IsEntryImage ((disk old).named n)) (sym (change.others n other)) (images n))
        (⊎_elim (λ same. subst (IsEntryImage at_old) (sym same) (images name)) (λ same. subst (IsEntryImage at_old) (sym (same ∙ is)) (inl (readable name))) change.there))

    pub replaced_by_own : Syncs disk moment left_since name r old new
    replaced_by_own = record {
      durable = by_result r puts.durable;
      quiet = quiet moment left_since disk now old new kept_files kept_crash puts.time;
    }
      where
        by_result : (r : Result T E) → OnOk r ((c : Folder) → LeftBy (disk new) c → c name ≡ that) → OnOk r ((c : Folder) → LeftBy (disk new) c → c name ≡ files_of (disk new) name)
        by_result (Ok x) durable = λ c left. durable c left ∙ is ∙ sym (ap (λ (f : Folder). f name) kept_files)
        by_result (Err e) durable = tt

-- a file that was read, and then replaced so
pub written_again : {S T E : Type 0} (disk : S → Disk) (moment : S → ℕ) (left_since : S → ℕ → Folder → Type 0)
    (now : (s : S) (t : ℕ) (c : Folder) → t ≤ moment s → LeftBy (disk s) c → left_since s t c)
    (name : Name) (old mid new : S) (r : Result T E) (bytes : List ℕ) → is_firm (disk old).place ≡ true → IsReadable (disk old) → disk mid ≡ disk old
    → Elapses (moment old) (moment mid) (left_since old) (left_since mid) (LeftBy (disk mid)) → read_at ((disk old).named name) ≡ Some bytes
    → Puts disk moment left_since name (Some bytes) r mid new → Syncs disk moment left_since name r old new
written_again disk moment left_since now name old mid new r bytes firm readable same time is puts =
    replaced_by_own disk moment left_since now name old firm readable r new (Some bytes) (sym is)
    (puts_behind moment left_since disk now old mid new name (Some bytes) r (quiet_same moment left_since disk now old mid same time) puts)

-- what comes behind quiet calls
pub syncs_behind : {S T E : Type 0} (disk : S → Disk) (moment : S → ℕ) (left_since : S → ℕ → Folder → Type 0)
    (now : (s : S) (t : ℕ) (c : Folder) → t ≤ moment s → LeftBy (disk s) c → left_since s t c)
    (name : Name) (old mid new : S) (r : Result T E) → IsQuiet disk moment left_since old mid → Syncs disk moment left_since name r mid new → Syncs disk moment left_since name r old new
syncs_behind disk moment left_since now name old mid new r first second =
    record { durable = second.durable; quiet = quiet_on moment left_since disk now old mid new first second.quiet }

pub syncs_nothing : {S T E : Type 0} (disk : S → Disk) (moment : S → ℕ) (left_since : S → ℕ → Folder → Type 0)
    (name : Name) (old new : S) (r : Result T E) → IsErr r → IsQuiet disk moment left_since old new → Syncs disk moment left_since name r old new
syncs_nothing disk moment left_since name old new (Ok x) failed is = absurd (cc)
syncs_nothing disk moment left_since name old new (Err e) failed is = record { durable = tt; quiet = is }
