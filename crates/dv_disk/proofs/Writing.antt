-- Bytes are written over a file, which may be made before.
use Rattle.std.proofs.Common.{◌≡◌, ◌≢◌, ◌⊎◌, inl, inr, ⊎_elim, ℕ, ◌≤◌, true, false, List, [], length, Option, Some, None, Result, Ok, Err, IsErr, OnOk, refl, sym, ◌∙◌, ap, subst, arith}
use Rattle.std.specs.Prelude.{nat_eq, unwrap_or}
use Rattle.std.proofs.lemmas.Bool.{eqb-true}
use Rattle.std.proofs.lemmas.List.{nil_from_length}
use Rattle.dv_shelf.specs.declared.shelf.Name.{Name}
use Rattle.dv_shelf.specs.Folders.{Folder, with_file, patched, ChangesOnly, IsEither, Torn, TornFile}
use Rattle.dv_shelf.specs.Crashes.{Elapses}
use Rattle.dv_shelf.specs.Disks.{Version, Gone, There, version_bytes, version_written}
use Rattle.dv_shelf.specs.Images.{IsFileImage}
use Rattle.dv_shelf.proofs.FolderLemmas.{with_changes, with_else, with_here}
use Rattle.dv_shelf.proofs.Torn.{patched_torn}
use Rattle.dv_shelf.proofs.TornImages.{version_torn}
use Rattle.dv_shelf.proofs.ShelfLemmas.{same_torn, torn_more}
use Rattle.dv_system.specs.declared.system.Entry.TheVariants as entry
use Rattle.dv_system.specs.Entries.{At, empty_file, read_at, put_at, hidden_at, written_at, IsEntryImage}
use Rattle.dv_system.specs.Disks.{Disk, LeftBy, IsReadable, IsOneOf, changed, files_of}
use Rattle.dv_system.proofs.Named.{named_here, named_else}
use Rattle.dv_disk.specs.States.{is_firm}
use Rattle.dv_disk.specs.Steps.{IsWritten, OnlyAt, Puts, Writes, Wrote}
use Rattle.dv_disk.proofs.Runs.{elapses_in, elapses_on, quiet_same, writes_nothing}
use Rattle.dv_disk.proofs.Places.{firm_left, images_left, images_on, image_here, others_before, at_each, is_alike, only_changes, only_follows, only_reads}
use Rattle.dv_disk.proofs.Putting.{settled_image, one_more}
use Rattle.dv_disk.proofs.Calls.{changed_at, only_is, same_at}

-- ---- a file that is written over

written_reads : (place n : ℕ) (stuck : List ℕ) (version : Version)
    → version_bytes (version_written place n stuck version) ≡ Some (patched (unwrap_or (version_bytes version) []) place stuck)
written_reads place n stuck Gone = refl
written_reads place n stuck (There bytes base written new) = refl

stuck_torn : (place n : ℕ) (stuck : List ℕ) (old : List ℕ) → length stuck ≤ n → Torn place n old (patched old place stuck)
stuck_torn place n stuck old short = torn_more place (length stuck) n old _ short (patched_torn old place stuck)

reads_torn : (place n : ℕ) (stuck : List ℕ) (file : Option (List ℕ)) → length stuck ≤ n → TornFile place n file (Some (patched (unwrap_or file []) place stuck))
reads_torn place n stuck None short = stuck_torn place n stuck [] short
reads_torn place n stuck (Some old) short = stuck_torn place n stuck old short

-- each image comes of one before
written_image : (place n : ℕ) (stuck : List ℕ) (at : At) (file : Option (List ℕ)) → length stuck ≤ n → IsEntryImage (written_at place n stuck at) file
    → (was : Option (List ℕ)) × IsEntryImage at was × TornFile place n was file
written_image place n stuck at file short (inl is) = let was = version_torn place n stuck at.first file short is in (was.0, inl was.1, was.2)
written_image place n stuck at file short (inr is) = (file, inr is, same_torn place n file)

-- ---- a file that was missing

empty_torn : (place n : ℕ) (file : Option (List ℕ)) → TornFile place n (Some []) file → TornFile place n None file
empty_torn place n None torn = absurd torn
empty_torn place n (Some new) torn = torn

empty_image : (file : Option (List ℕ)) → IsFileImage empty_file file → file ≡ Some []
empty_image file is = settled_image (Some []) file is

-- the empty file is among the images of one that is written
empty_written : (place n : ℕ) (stuck : List ℕ) (file : Option (List ℕ)) → IsFileImage empty_file file → IsFileImage (version_written place n stuck empty_file) file
empty_written place n stuck file is = subst (IsFileImage (version_written place n stuck empty_file)) (sym (empty_image file is)) (record {
  firm = λ k firm. absurd (firm (inr (omega arith)));
  no_shorter = omega arith;
  no_longer = omega arith;
})

none_torn : (place n : ℕ) → TornFile place n None (Some [])
none_torn place n = same_torn place n (Some [])

-- an image of the new file, from one before it was made
made_image : (place n : ℕ) (at : At) (file was : Option (List ℕ)) → read_at at ≡ None → IsFileImage at.first (read_at at) → IsEntryImage (put_at empty_file false at) was → TornFile place n was file
    → (old : Option (List ℕ)) × IsEntryImage at old × TornFile place n old file
made_image place n at file was none readable (inl is) torn =
    (None, inl (subst (IsFileImage at.first) none readable), empty_torn place n file (subst (λ (o : Option (List ℕ)). TornFile place n o file) (empty_image was is) torn))
made_image place n at file was none readable (inr is) torn = (was, is, torn)

hidden_torn : (place n : ℕ) (at : At) (file : Option (List ℕ)) → read_at at ≡ None → IsFileImage at.first (read_at at) → IsEntryImage (hidden_at empty_file at) file
    → (old : Option (List ℕ)) × IsEntryImage at old × TornFile place n old file
hidden_torn place n at file none readable (inl is) = (file, inl is, same_torn place n file)
hidden_torn place n at file none readable (inr is) =
    ⊎_elim (λ old. (file, inr old, same_torn place n file))
    (λ new. (None, inl (subst (IsFileImage at.first) none readable), empty_torn place n file (subst (λ (o : Option (List ℕ)). TornFile place n (Some []) o) (sym (empty_image file new)) (same_torn place n (Some []))))) (one_more at.others empty_file file is)

-- ---- the calls

module _ {S : Type 0} (disk : S → Disk) (moment : S → ℕ) (left_since : S → ℕ → Folder → Type 0)
    (now : (s : S) (t : ℕ) (c : Folder) → t ≤ moment s → LeftBy (disk s) c → left_since s t c)
    (name : Name) (place : ℕ) (bytes : List ℕ) (old : S) (firm : is_firm (disk old).place ≡ true) (readable : IsReadable (disk old)) where
  abbrev pub at_old : At
  at_old = (disk old).named name

  abbrev Step : Option (List ℕ) → Option (List ℕ) → Type 0
  Step = TornFile place (length bytes)

  -- what some calls are that left such an entry
  pub writes : {T E : Type 0} (r : Result T E) (new : S) (at : At) → OnlyAt name at (disk old) (disk new)
      → ((file : Option (List ℕ)) → IsEntryImage at file → (was : Option (List ℕ)) × IsEntryImage at_old was × Step was file)
      → OnOk r (read_at at ≡ Some (patched (unwrap_or (read_at at_old) []) place bytes)) → Step (read_at at_old) (read_at at)
      → Elapses (moment old) (moment new) (left_since old) (left_since new) (LeftBy (disk new))
      → Writes disk moment left_since name place bytes r old new
  writes (Ok x) new at only back ok step time = record {
    ok = only_reads name at (disk old) (disk new) only _ ok;
    err = tt;
    crash = only_follows name at (disk old) (disk new) only Step firm back;
    time = time;
  }
  writes (Err e) new at only back ok step time = record {
    ok = tt;
    err = only_changes name at (disk old) (disk new) only Step step;
    crash = only_follows name at (disk old) (disk new) only Step firm back;
    time = time;
  }

  ok_reads : {T E : Type 0} (r : Result T E) (at : At) (stuck : List ℕ) → OnOk r (stuck ≡ bytes)
      → OnOk r (read_at (written_at place (length bytes) stuck at) ≡ Some (patched (unwrap_or (read_at at) []) place bytes))
  ok_reads (Ok x) at stuck all = written_reads place (length bytes) stuck at.first ∙ ap (λ (b : List ℕ). Some (patched (unwrap_or (read_at at) []) place b)) all
  ok_reads (Err e) at stuck all = tt

  -- a file that is there, or isn't
  pub written : {T E : Type 0} (r : Result T E) (new : S) → IsWritten name place bytes r (disk old) (disk new)
      → Elapses (moment old) (moment new) (left_since old) (left_since new) (LeftBy (disk new)) → Writes disk moment left_since name place bytes r old new
  written r new is time =
      let n = length bytes in
      writes r new (written_at place n is.stuck at_old) (only_is name _ _ _ _ is.is (changed_at (written_at place n is.stuck) (disk old) name))
      (λ file image. written_image place n is.stuck at_old file is.short image) (ok_reads r at_old is.stuck is.all)
      (subst (Step (read_at at_old)) (sym (written_reads place n is.stuck at_old.first)) (reads_torn place n is.stuck (read_at at_old) is.short)) time

  -- the same, or nothing was
  pub wrote : {T E : Type 0} (r : Result T E) (new : S) → Wrote name place bytes r (disk old) (disk new)
      → Elapses (moment old) (moment new) (left_since old) (left_since new) (LeftBy (disk new)) → Writes disk moment left_since name place bytes r old new
  wrote r new (inl is) time = written r new is time
  wrote r new (inr (failed, is)) time = writes_nothing moment left_since disk now old new name place bytes r failed (quiet_same moment left_since disk now old new is time)

  -- one that could not be made
  pub make_failed : {T E : Type 0} (r : Result T E) (new : S) → IsErr r → read_at at_old ≡ None
      → IsOneOf (disk old) (changed (put_at empty_file false) (disk old) (entry.File name)) (changed (hidden_at empty_file) (disk old) (entry.File name)) (disk new)
      → Elapses (moment old) (moment new) (left_since old) (left_since new) (LeftBy (disk new)) → Writes disk moment left_since name place bytes r old new
  make_failed (Ok x) new failed none is time = absurd (cc)
  make_failed (Err e) new failed none (inl is) time =
      writes (Err e) new at_old (only_is name _ _ _ _ is (same_at (disk old) name)) (λ file image. (file, image, same_torn place (length bytes) file)) tt (same_torn place (length bytes) (read_at at_old)) time
  make_failed (Err e) new failed none (inr (inl is)) time =
      writes (Err e) new (put_at empty_file false at_old) (only_is name _ _ _ _ is (changed_at (put_at empty_file false) (disk old) name))
      (λ file image. made_image place (length bytes) at_old file file none (readable name) image (same_torn place (length bytes) file)) tt
      (subst (λ (o : Option (List ℕ)). Step o (Some [])) (sym none) (none_torn place (length bytes))) time
  make_failed (Err e) new failed none (inr (inr is)) time =
      writes (Err e) new (hidden_at empty_file at_old) (only_is name _ _ _ _ is (changed_at (hidden_at empty_file) (disk old) name))
      (λ file image. hidden_torn place (length bytes) at_old file none (readable name) image) tt (same_torn place (length bytes) (read_at at_old)) time

  -- one that was made
  module _ (mid new : S) (none : read_at at_old ≡ None) (made : disk mid ≡ changed (put_at empty_file false) (disk old) (entry.File name)) where
    abbrev at_mid : At
    at_mid = put_at empty_file false at_old

    made_only : OnlyAt name at_mid (disk old) (disk mid)
    made_only = only_is name _ _ _ _ made (changed_at (put_at empty_file false) (disk old) name)

    both : (stuck : List ℕ) → disk new ≡ changed (written_at place (length bytes) stuck) (disk mid) (entry.File name)
        → OnlyAt name (written_at place (length bytes) stuck at_mid) (disk old) (disk new)
    both stuck is =
        let f = written_at place (length bytes) stuck in
        let at_made : (disk mid).named name ≡ at_mid = ap (λ (d : Disk). d.named name) made ∙ named_here (disk old).named name at_mid in
        record {
          place = ap (λ (d : Disk). d.place) is ∙ ap (λ (d : Disk). d.place) made;
          here = is_alike _ _ (ap (λ (d : Disk). d.named name) is ∙ named_here (disk mid).named name (f ((disk mid).named name)) ∙ ap f at_made);
          others = λ m other. is_alike _ _ (ap (λ (d : Disk). d.named m) is ∙ named_else (disk mid).named name (f ((disk mid).named name)) m other ∙ ap (λ (d : Disk). d.named m) made ∙ named_else (disk old).named name at_mid m other);
        }

    between : (stuck : List ℕ) → OnlyAt name (written_at place (length bytes) stuck at_mid) (disk old) (disk new) → (c : Folder) → LeftBy (disk mid) c → LeftBy (disk old) c ⊎ LeftBy (disk new) c
    between stuck only c left =
        let images = firm_left (disk mid) c (ap is_firm made_only.place ∙ firm) left in
        let others = others_before name _ (disk old) (disk mid) made_only c images in
        ⊎_elim (λ put. inr (images_left (disk new) c (images_on name _ (disk old) (disk new) only c others (inl (empty_written place (length bytes) stuck (c name) put)))))
        (λ was. inl (images_left (disk old) c (at_each (disk old) name c others was))) (image_here name _ (disk old) (disk mid) made_only (c name) (images name))

    pub made_written : {T E : Type 0} (r : Result T E) → IsWritten name place bytes r (disk mid) (disk new)
        → Elapses (moment old) (moment mid) (left_since old) (left_since mid) (LeftBy (disk mid))
        → Elapses (moment mid) (moment new) (left_since mid) (left_since new) (LeftBy (disk new)) → Writes disk moment left_since name place bytes r old new
    made_written {T} {E} r is first second =
        let n = length bytes in
        let only = both is.stuck is.is in
        let gone : unwrap_or (read_at at_old) [] ≡ [] = ap (λ (o : Option (List ℕ)). unwrap_or o []) none in
        writes r new (written_at place n is.stuck at_mid) only
        (λ file image.
        let was = written_image place n is.stuck at_mid file is.short image in
        made_image place n at_old file was.0 none (readable name) was.1 was.2)
        (subst (λ (l : List ℕ). OnOk r (read_at (written_at place n is.stuck at_mid) ≡ Some (patched l place bytes))) (sym gone) (ok_reads r at_mid is.stuck is.all))
        (subst (λ (o : Option (List ℕ)). Step o (read_at (written_at place n is.stuck at_mid))) (sym none)
        (empty_torn place n (version_bytes (version_written place n is.stuck empty_file)) (subst (Step (Some [])) (sym (written_reads place n is.stuck empty_file)) (reads_torn place n is.stuck (Some []) is.short))))
        (elapses_in moment left_since old new (λ c. LeftBy (disk old) c ⊎ LeftBy (disk new) c) (LeftBy (disk old)) (LeftBy (disk new)) (now old)
        (elapses_on moment left_since old mid new (LeftBy (disk mid)) (LeftBy (disk new)) (λ c. LeftBy (disk old) c ⊎ LeftBy (disk new) c) first second (between is.stuck only) (λ c left. inr left)) (λ c left. left))

    -- the same, or nothing was written
    pub made_wrote : {T E : Type 0} (r : Result T E) → Wrote name place bytes r (disk mid) (disk new)
        → Elapses (moment old) (moment mid) (left_since old) (left_since mid) (LeftBy (disk mid))
        → Elapses (moment mid) (moment new) (left_since mid) (left_since new) (LeftBy (disk new)) → Writes disk moment left_since name place bytes r old new
    made_wrote r (inl is) first second = made_written r is first second
    made_wrote r (inr (failed, is)) first second =
        make_failed r new failed none (inr (inl (is ∙ made)))
        (elapses_on moment left_since old mid new (LeftBy (disk mid)) (LeftBy (disk new)) (LeftBy (disk new)) first second (λ c left. subst (λ (d : Disk). LeftBy d c) (sym is) left) (λ c left. left))

pub none_left : (bytes : List ℕ) → nat_eq (length bytes) 0 ≡ true → bytes ≡ []
none_left bytes none = nil_from_length bytes (eqb-true (length bytes) 0 none)

-- ---- a write of no bytes: the file is replaced by itself, with zero bytes up to the place

module _ {S : Type 0} (disk : S → Disk) (moment : S → ℕ) (left_since : S → ℕ → Folder → Type 0)
    (name : Name) (place : ℕ) (old : S) (firm : is_firm (disk old).place ≡ true) (readable : IsReadable (disk old)) where
  abbrev Filled : Option (List ℕ) → Option (List ℕ)
  Filled file = Some (patched (unwrap_or file []) place [])

  abbrev as_read : Option (List ℕ)
  as_read = read_at ((disk old).named name)

  filled_torn : (was file : Option (List ℕ)) → IsEither (Filled was) was file → TornFile place 0 was file
  filled_torn was file (inl same) = subst (TornFile place 0 was) (sym same) (same_torn place 0 was)
  filled_torn was file (inr is) = subst (TornFile place 0 was) (sym is) (reads_torn place 0 [] was (omega arith))

  filled_changes : (new : S) → ChangesOnly name (IsEither (Filled as_read)) (files_of (disk old)) (files_of (disk new))
      → ChangesOnly name (TornFile place 0) (files_of (disk old)) (files_of (disk new))
  filled_changes new change = record { there = filled_torn as_read _ change.there; others = change.others }

  -- what a crash leaves came of the file as reads gave it, or of what a crash left before
  filled_follows : (c d : Folder) → LeftBy (disk old) d → ChangesOnly name (IsEither (Filled as_read)) d c
      → (was : Folder) × LeftBy (disk old) was × ChangesOnly name (TornFile place 0) was c
  filled_follows c d left change = by_case change.there
    where
      others : (file : Option (List ℕ)) (n : Name) → n ≢ name → IsEntryImage ((disk old).named n) (with_file c name file n)
      others file n other = subst (IsEntryImage ((disk old).named n)) (sym (with_else c name file n other ∙ change.others n other)) (firm_left (disk old) d firm left n)

      by_case : IsEither (Filled as_read) (d name) (c name) → (was : Folder) × LeftBy (disk old) was × ChangesOnly name (TornFile place 0) was c
      by_case (inl same) = (d, left, record { there = subst (TornFile place 0 (d name)) (sym same) (same_torn place 0 (d name)); others = change.others })
      by_case (inr is) = (
        with_file c name as_read,
        images_left (disk old) _ (at_each (disk old) name _ (others as_read) (subst (IsEntryImage ((disk old).named name)) (sym (with_here c name as_read)) (inl (readable name)))),
        with_changes c name (TornFile place 0) as_read (filled_torn as_read (c name) (inr is)),
      )

  pub replaced : {T E : Type 0} (r : Result T E) (new : S) → Puts disk moment left_since name (Filled as_read) r old new → Writes disk moment left_since name place [] r old new
  replaced (Ok x) new puts = record {
    ok = puts.ok;
    err = tt;
    crash = λ c left. let was = puts.crash c left in filled_follows c was.0 was.1 was.2;
    time = puts.time;
  }
  replaced (Err e) new puts = record {
    ok = tt;
    err = filled_changes new puts.err;
    crash = λ c left. let was = puts.crash c left in filled_follows c was.0 was.1 was.2;
    time = puts.time;
  }
