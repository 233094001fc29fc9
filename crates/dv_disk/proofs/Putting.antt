-- A file comes to stand at a name, and then the folder is synced.
use Rattle.std.proofs.Common.{◌≡◌, ◌⊎◌, inl, inr, ⊎_elim, ℕ, Bool, true, false, not, ◌&&◌, ◌||◌, List, [], ◌∷◌, ◌++◌, Option, Some, None, Result, Ok, Err, IsErr, OnOk, OnErr, ◌≤◌, refl, sym, ◌∙◌, ap, subst}
use Rattle.dv_shelf.specs.declared.shelf.Name.{Name}
use Rattle.dv_shelf.specs.Folders.{Folder, IsEither}
use Rattle.dv_shelf.specs.Crashes.{Elapses}
use Rattle.dv_shelf.specs.Disks.{Version, Gone, There, version_bytes, settled_version}
use Rattle.dv_shelf.specs.Images.{IsFileImage, IsImageOfOne}
use Rattle.dv_shelf.proofs.DiskLemmas.{settled_reads}
use Rattle.dv_shelf.proofs.ImageLemmas.{settled_only}
use Rattle.dv_system.specs.Entries.{At, read_at, put_at, hidden_at, swept_at, IsEntryImage}
use Rattle.dv_system.specs.Disks.{Disk, LeftBy, IsReadable}
use Rattle.dv_disk.specs.States.{is_firm, is_none, sweeps, trusts}
use Rattle.dv_disk.specs.Steps.{OnlyAt, Puts}
use Rattle.dv_disk.proofs.Runs.{elapses_in, elapses_on}
use Rattle.dv_disk.proofs.Places.{firm_left, images_left, only_follows, only_reads, only_changes, images_on, image_here, others_before, at_each}

-- ---- the entry, behind each call

-- an image of a file that a crash leaves in one way alone
pub settled_image : (that file : Option (List ℕ)) → IsFileImage (settled_version that) file → file ≡ that
settled_image that file is = settled_only that file (inl is)

-- it was put there
put_image : (that : Option (List ℕ)) (b : Bool) (at : At) (file : Option (List ℕ)) → IsEntryImage (put_at (settled_version that) b at) file
    → IsEntryImage at file ⊎ (file ≡ that)
put_image that b at file (inl is) = inr (settled_image that file is)
put_image that b at file (inr was) = inl was

pub one_more : (others : List Version) (version : Version) (file : Option (List ℕ)) → IsImageOfOne (others ++ version ∷ []) file → IsImageOfOne others file ⊎ IsFileImage version file
one_more [] version file (inl is) = inr is
one_more [] version file (inr none) = absurd none
one_more (v ∷ others) version file (inl is) = inl (inl is)
one_more (v ∷ others) version file (inr is) = ⊎_elim (λ old. inl (inr old)) (λ here. inr here) (one_more others version file is)

-- it was hidden there
hidden_image : (that : Option (List ℕ)) (at : At) (file : Option (List ℕ)) → IsEntryImage (hidden_at (settled_version that) at) file
    → IsEntryImage at file ⊎ (file ≡ that)
hidden_image that at file (inl is) = inl (inl is)
hidden_image that at file (inr is) =
    ⊎_elim (λ old. inl (inr old)) (λ new. inr (settled_image that file new)) (one_more at.others (settled_version that) file is)

-- and made durable
abbrev pub durable_at : Option (List ℕ) → Bool → At → At
durable_at that b at = swept_at (put_at (settled_version that) b at)

durable_image : (that : Option (List ℕ)) (b : Bool) (at : At) (file : Option (List ℕ)) → IsEntryImage (durable_at that b at) file → file ≡ that
durable_image that b at file (inl is) = settled_image that file is
durable_image that b at file (inr none) = absurd none

-- none stands there, and a crash brings none back
gone_first : (version : Version) (file : Option (List ℕ)) → version_bytes version ≡ None → IsFileImage version file → file ≡ None
gone_first Gone None none is = refl
gone_first Gone (Some image) none is = absurd is
gone_first (There bytes base written new) file none is = absurd (cc)

pub none_back : (unsure doubted : Bool) (others : List Version) (file : Option (List ℕ)) → unsure || is_none others ≡ true → not doubted && not unsure ≡ true → IsImageOfOne others file → ⊥
none_back true true others file swept sure is = cc
none_back true false others file swept sure is = cc
none_back false doubted [] file swept sure is = is
none_back false doubted (v ∷ others) file swept sure is = cc

pub gone_only : (at : At) → read_at at ≡ None → sweeps at ≡ true → trusts at ≡ true → (file : Option (List ℕ)) → IsEntryImage at file → file ≡ None
gone_only at none swept sure file (inl is) = gone_first at.first file none is
gone_only at none swept sure file (inr is) = absurd (none_back at.is_unsure at.is_doubted at.others file swept sure is)

-- ---- the folder, behind each call

-- the step from the old file
either_back : (that : Option (List ℕ)) (at : At) (file : Option (List ℕ)) → IsFileImage at.first (read_at at) → IsEntryImage at file ⊎ (file ≡ that)
    → (was : Option (List ℕ)) × IsEntryImage at was × IsEither that was file
either_back that at file readable (inl was) = (file, was, inl refl)
either_back that at file readable (inr is) = (read_at at, inl readable, inr is)

module _ {S : Type 0} (disk : S → Disk) (moment : S → ℕ) (left_since : S → ℕ → Folder → Type 0)
    (now : (s : S) (t : ℕ) (c : Folder) → t ≤ moment s → LeftBy (disk s) c → left_since s t c)
    (name : Name) (that : Option (List ℕ)) (old : S) (firm : is_firm (disk old).place ≡ true) (readable : IsReadable (disk old)) where
  abbrev pub at_old : At
  at_old = (disk old).named name

  -- what some calls are that left such an entry
  pub puts : {T E : Type 0} (r : Result T E) (new : S) (at : At) → OnlyAt name at (disk old) (disk new)
      → ((file : Option (List ℕ)) → IsEntryImage at file → IsEntryImage at_old file ⊎ (file ≡ that))
      → OnOk r (read_at at ≡ that) → IsEither that (read_at at_old) (read_at at) → OnOk r ((file : Option (List ℕ)) → IsEntryImage at file → file ≡ that)
      → Elapses (moment old) (moment new) (left_since old) (left_since new) (LeftBy (disk new))
      → Puts disk moment left_since name that r old new
  puts (Ok x) new at only images ok either durable time = record {
    ok = only_reads name at (disk old) (disk new) only that ok;
    err = tt;
    durable = λ c left. durable (c name) (image_here name at (disk old) (disk new) only (c name) (firm_left (disk new) c (ap is_firm only.place ∙ firm) left name));
    crash = only_follows name at (disk old) (disk new) only (IsEither that) firm (λ file is. either_back that at_old file (readable name) (images file is));
    time = time;
  }
  puts (Err e) new at only images ok either durable time = record {
    ok = tt;
    err = only_changes name at (disk old) (disk new) only (IsEither that) either;
    durable = tt;
    crash = only_follows name at (disk old) (disk new) only (IsEither that) firm (λ file is. either_back that at_old file (readable name) (images file is));
    time = time;
  }

  -- the call that was to put it there failed
  pub put_failed : {T E : Type 0} (r : Result T E) (new : S) (b : Bool) → IsErr r
      → (OnlyAt name at_old (disk old) (disk new)) ⊎ (OnlyAt name (put_at (settled_version that) b at_old) (disk old) (disk new) ⊎ OnlyAt name (hidden_at (settled_version that) at_old) (disk old) (disk new))
      → Elapses (moment old) (moment new) (left_since old) (left_since new) (LeftBy (disk new))
      → Puts disk moment left_since name that r old new
  put_failed (Ok x) new b failed is time = absurd (cc)
  put_failed (Err e) new b failed (inl same) time = puts (Err e) new at_old same (λ file is. inl is) tt (inl refl) tt time
  put_failed (Err e) new b failed (inr (inl shown)) time =
      puts (Err e) new (put_at (settled_version that) b at_old) shown (put_image that b at_old) tt (inr (settled_reads that)) tt time
  put_failed (Err e) new b failed (inr (inr hidden)) time =
      puts (Err e) new (hidden_at (settled_version that) at_old) hidden (hidden_image that at_old) tt (inl refl) tt time

  -- what a crash leaves between the two calls it leaves before or after them
  between : (mid new : S) (b : Bool) (at : At) → OnlyAt name (put_at (settled_version that) b at_old) (disk old) (disk mid) → OnlyAt name at (disk old) (disk new)
      → at.first ≡ settled_version that → (c : Folder) → LeftBy (disk mid) c → LeftBy (disk old) c ⊎ LeftBy (disk new) c
  between mid new b at middle only first c left =
      let images = firm_left (disk mid) c (ap is_firm middle.place ∙ firm) left in
      let others = others_before name _ (disk old) (disk mid) middle c images in
      ⊎_elim (λ put. inr (images_left (disk new) c (images_on name at (disk old) (disk new) only c others (inl (subst (λ (v : Version). IsFileImage v (c name)) (sym first) put)))))
      (λ was. inl (images_left (disk old) c (at_each (disk old) name c others was))) (image_here name _ (disk old) (disk mid) middle (c name) (images name))

  -- it was put there, and a sync of the folder answered
  pub put_swept : {T E : Type 0} (r : Result T E) (mid new : S) (b : Bool)
      → OnlyAt name (put_at (settled_version that) b at_old) (disk old) (disk mid)
      → OnOk r (OnlyAt name (durable_at that b at_old) (disk old) (disk new))
      → OnErr r (OnlyAt name (put_at (settled_version that) b at_old) (disk old) (disk new))
      → Elapses (moment old) (moment mid) (left_since old) (left_since mid) (LeftBy (disk mid))
      → Elapses (moment mid) (moment new) (left_since mid) (left_since new) (LeftBy (disk new))
      → Puts disk moment left_since name that r old new
  put_swept (Ok x) mid new b middle ok err first second =
      puts (Ok x) new (durable_at that b at_old) ok (λ file is. inr (durable_image that b at_old file is)) (settled_reads that) (inr (settled_reads that)) (durable_image that b at_old)
      (elapses_in moment left_since old new (λ c. LeftBy (disk old) c ⊎ LeftBy (disk new) c) (LeftBy (disk old)) (LeftBy (disk new)) (now old)
      (elapses_on moment left_since old mid new (LeftBy (disk mid)) (LeftBy (disk new)) (λ c. LeftBy (disk old) c ⊎ LeftBy (disk new) c) first second (between mid new b (durable_at that b at_old) middle ok refl) (λ c is. inr is)) (λ c is. is))
  put_swept (Err e) mid new b middle ok err first second =
      puts (Err e) new (put_at (settled_version that) b at_old) err (put_image that b at_old) tt (inr (settled_reads that)) tt
      (elapses_in moment left_since old new (λ c. LeftBy (disk old) c ⊎ LeftBy (disk new) c) (LeftBy (disk old)) (LeftBy (disk new)) (now old)
      (elapses_on moment left_since old mid new (LeftBy (disk mid)) (LeftBy (disk new)) (λ c. LeftBy (disk old) c ⊎ LeftBy (disk new) c) first second (between mid new b (put_at (settled_version that) b at_old) middle err refl) (λ c is. inr is)) (λ c is. is))
