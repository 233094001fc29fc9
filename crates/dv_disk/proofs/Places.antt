-- A durable folder: what a crash leaves is an image of each entry.
use Rattle.std.proofs.Common.{◌≡◌, ◌≢◌, inl, inr, ⊎_elim, ℕ, Bool, true, false, ◌||◌, cond, List, [], ◌∷◌, Option, refl, sym, ◌∙◌, ap, subst}
use Rattle.std.proofs.Math.Path.{fun_ext}
use Rattle.dv_shelf.specs.declared.shelf.Name.{Name}
use Rattle.dv_shelf.specs.Folders.{Folder, with_file, ChangesOnly}
use Rattle.dv_shelf.specs.Crashes.{Follows, FollowsNone}
use Rattle.dv_shelf.specs.Disks.{Version, version_bytes}
use Rattle.dv_shelf.specs.Images.{IsFileImage, IsImageOfOne}
use Rattle.dv_shelf.proofs.FolderLemmas.{Step, with_here, with_else, with_changes}
use Rattle.dv_system.specs.Entries.{At, read_at, IsEntryImage, swept_at}
use Rattle.dv_system.specs.Disks.{Disk, Place, Missing, Loose, Doubted, Firm, may_vanish, files_of, LeftBy}
use Rattle.dv_system.proofs.Named.{by_names}
use Rattle.dv_disk.specs.States.{is_firm, is_none, sweeps}
use Rattle.dv_disk.specs.Steps.{IsAlike, OnlyAt}

firm_stays : (place : Place) → is_firm place ≡ true → may_vanish place ≡ true → ⊥
firm_stays Missing firm vanishes = cc
firm_stays Loose firm vanishes = cc
firm_stays Doubted firm vanishes = cc
firm_stays Firm firm vanishes = cc

-- each entry has an image
abbrev pub IsImageAt : Disk → Folder → Type 0
IsImageAt disk folder = (n : Name) → IsEntryImage (disk.named n) (folder n)

pub firm_left : (disk : Disk) (c : Folder) → is_firm disk.place ≡ true → LeftBy disk c → IsImageAt disk c
unfolding LeftBy
firm_left disk c firm (inl images) = images
firm_left disk c firm (inr gone) = absurd (firm_stays disk.place firm gone.0)

pub images_left : (disk : Disk) (c : Folder) → IsImageAt disk c → LeftBy disk c
unfolding LeftBy
images_left disk c images = inl images

-- ---- entries that are alike

pub alike : (a : At) → IsAlike a a
alike a = record { first = refl; others = refl }

pub alike_on : (a b c : At) → IsAlike a b → IsAlike b c → IsAlike a c
alike_on a b c one two = record { first = one.first ∙ two.first; others = one.others ∙ two.others }

pub alike_back : (a b : At) → IsAlike a b → IsAlike b a
alike_back a b one = record { first = sym one.first; others = sym one.others }

pub alike_image : (a b : At) (file : Option (List ℕ)) → IsAlike a b → IsEntryImage a file → IsEntryImage b file
alike_image a b file same is =
    ⊎_elim (λ first. inl (subst (λ (v : Version). IsFileImage v file) same.first first))
    (λ others. inr (subst (λ (vs : List Version). IsImageOfOne vs file) same.others others)) is

pub alike_reads : (a b : At) → IsAlike a b → read_at a ≡ read_at b
alike_reads a b same = ap version_bytes same.first

-- a sync of the folder changes nothing of an entry that is swept
pub swept_alike : (at : At) → sweeps at ≡ true → IsAlike (swept_at at) at
swept_alike at is = record { first = refl; others = kept at.is_unsure at.others is }
  where
    kept : (unsure : Bool) (others : List Version) → unsure || is_none others ≡ true → cond unsure others [] ≡ others
    kept true others is = refl
    kept false [] is = refl
    kept false (v ∷ others) is = absurd (cc)

-- ---- one entry changes

pub is_alike : (a b : At) → a ≡ b → IsAlike a b
is_alike a b same = record { first = ap (λ (x : At). x.first) same; others = ap (λ (x : At). x.others) same }

-- an image at one name, and at the others
pub at_each : (disk : Disk) (name : Name) (c : Folder) → ((n : Name) → n ≢ name → IsEntryImage (disk.named n) (c n)) → IsEntryImage (disk.named name) (c name) → IsImageAt disk c
at_each disk name c others here n =
    let P : Name → Type 0 = λ m. IsEntryImage (disk.named m) (c m) in
    ⊎_elim (λ same. subst P (sym same) here) (others n) (by_names n name)

module _ (name : Name) (at : At) (old new : Disk) (only : OnlyAt name at old new) where
  pub image_here : (file : Option (List ℕ)) → IsEntryImage (new.named name) file → IsEntryImage at file
  image_here file is = alike_image (new.named name) at file only.here is

  -- the images of the other entries are as before
  pub images_else : (c : Folder) (file : Option (List ℕ)) → IsImageAt new c → IsEntryImage (old.named name) file → IsImageAt old (with_file c name file)
  images_else c file images is n =
      ⊎_elim (λ same. here n same) (λ other. subst (IsEntryImage (old.named n)) (sym (with_else c name file n other)) (alike_image (new.named n) (old.named n) (c n) (only.others n other) (images n))) (by_names n name)
    where
      here : (n : Name) → n ≡ name → IsEntryImage (old.named n) (with_file c name file n)
      here n same =
          let P : Name → Type 0 = λ m. IsEntryImage (old.named m) (with_file c name file m) in
          subst P (sym same) (subst (IsEntryImage (old.named name)) (sym (with_here c name file)) is)

  -- what a crash leaves after the change is an outcome before it, after a step
  pub only_follows : (step : Step) → is_firm old.place ≡ true
      → ((file : Option (List ℕ)) → IsEntryImage at file → (was : Option (List ℕ)) × IsEntryImage (old.named name) was × step was file)
      → Follows (ChangesOnly name step) (LeftBy old) (LeftBy new)
  only_follows step firm back c left =
      let images = firm_left new c (ap is_firm only.place ∙ firm) left in
      let was = back (c name) (image_here (c name) (images name)) in
      (with_file c name was.0, images_left old _ (images_else c was.0 images was.1), with_changes c name step was.0 was.2)

  -- the images of the others are as before
  pub others_before : (c : Folder) → IsImageAt new c → (n : Name) → n ≢ name → IsEntryImage (old.named n) (c n)
  others_before c images n other = alike_image (new.named n) (old.named n) (c n) (only.others n other) (images n)

  -- an image of each, where that of the name is one before
  pub only_none : is_firm old.place ≡ true → ((file : Option (List ℕ)) → IsEntryImage at file → IsEntryImage (old.named name) file) → FollowsNone (LeftBy old) (LeftBy new)
  only_none firm back c left =
      let images = firm_left new c (ap is_firm only.place ∙ firm) left in
      images_left old c (at_each old name c (others_before c images) (back (c name) (image_here (c name) (images name))))

  -- the same the other way round
  pub images_on : (c : Folder) → ((n : Name) → n ≢ name → IsEntryImage (old.named n) (c n)) → IsEntryImage at (c name) → IsImageAt new c
  images_on c images is =
      at_each new name c (λ n other. alike_image (old.named n) (new.named n) (c n) (alike_back (new.named n) (old.named n) (only.others n other)) (images n other))
      (alike_image at (new.named name) (c name) (alike_back (new.named name) at only.here) is)

  -- what reads give
  pub only_reads : (file : Option (List ℕ)) → read_at at ≡ file → files_of new ≡ with_file (files_of old) name file
  only_reads file is = fun_ext (λ n. ⊎_elim (λ same. here n same) (λ other. alike_reads (new.named n) (old.named n) (only.others n other) ∙ sym (with_else (files_of old) name file n other)) (by_names n name))
    where
      here : (n : Name) → n ≡ name → files_of new n ≡ with_file (files_of old) name file n
      here n same =
          let P : Name → Type 0 = λ m. files_of new m ≡ with_file (files_of old) name file m in
          subst P (sym same) (alike_reads (new.named name) at only.here ∙ is ∙ sym (with_here (files_of old) name file))

  pub only_changes : (step : Step) → step (read_at (old.named name)) (read_at at) → ChangesOnly name step (files_of old) (files_of new)
  only_changes step is = record {
    there = subst (step (read_at (old.named name))) (sym (alike_reads (new.named name) at only.here)) is;
    others = λ n other. alike_reads (new.named n) (old.named n) (only.others n other);
  }
