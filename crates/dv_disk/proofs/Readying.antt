-- The folder itself, and its entries, are made durable.
use Rattle.std.proofs.Common.{◌≡◌, inl, inr, ℕ, ◌≤◌, Bool, true, false, cond, List, [], Option, refl, ◌∙◌, ap, subst}
use Rattle.std.proofs.Math.Path.{fun_ext}
use Rattle.dv_shelf.specs.Disks.{Version}
use Rattle.dv_shelf.specs.Images.{IsImageOfOne}
use Rattle.dv_shelf.specs.Folders.{Folder}
use Rattle.dv_shelf.specs.Crashes.{FollowsNone, Elapses}
use Rattle.dv_system.specs.Entries.{At, read_at, swept_at, unsure_at, IsEntryImage}
use Rattle.dv_system.specs.Disks.{Disk, Place, Missing, Loose, Doubted, Firm, may_vanish, is_missing, made_place, firm_place, doubted_place, with_place, changed_names, files_of, LeftBy}
use Rattle.dv_disk.specs.Steps.{IsQuiet}
use Rattle.dv_disk.proofs.Runs.{quiet}

-- a crash takes no folder away that it didn't before
abbrev pub Vanishes : (Place → Place) → Type 0
Vanishes change = (place : Place) → may_vanish (change place) ≡ true → may_vanish place ≡ true

pub made_vanishes : Vanishes made_place
made_vanishes Missing is = refl
made_vanishes Loose is = refl
made_vanishes Doubted is = refl
made_vanishes Firm is = is

pub firm_vanishes : Vanishes firm_place
firm_vanishes Missing is = refl
firm_vanishes Loose is = refl
firm_vanishes Doubted is = refl
firm_vanishes Firm is = is

pub doubted_vanishes : Vanishes doubted_place
doubted_vanishes Missing is = refl
doubted_vanishes Loose is = refl
doubted_vanishes Doubted is = refl
doubted_vanishes Firm is = is

pub there : (place : Place) → is_missing (made_place place) ≡ false
there Missing = refl
there Loose = refl
there Doubted = refl
there Firm = refl

-- each image of an entry is one before
abbrev pub Narrows : (At → At) → Type 0
Narrows change = (at : At) (file : Option (List ℕ)) → IsEntryImage (change at) file → IsEntryImage at file

swept_others : (unsure : Bool) (others : List Version) (file : Option (List ℕ)) → IsImageOfOne (cond unsure others []) file → IsImageOfOne others file
swept_others true others file is = is
swept_others false others file is = absurd is

pub swept_narrows : Narrows swept_at
swept_narrows at file (inl is) = inl is
swept_narrows at file (inr is) = inr (swept_others at.is_unsure at.others file is)

pub unsure_narrows : Narrows unsure_at
unsure_narrows at file is = is

place_left : (change : Place → Place) (disk : Disk) → Vanishes change → FollowsNone (LeftBy disk) (LeftBy (with_place change disk))
unfolding LeftBy
place_left change disk vanishes c (inl images) = inl images
place_left change disk vanishes c (inr gone) = inr (vanishes disk.place gone.0, gone.1)

names_left : (change : At → At) (disk : Disk) → Narrows change → FollowsNone (LeftBy disk) (LeftBy (changed_names change disk))
unfolding LeftBy
names_left change disk narrows c (inl images) = inl (λ n. narrows (disk.named n) (c n) (images n))
names_left change disk narrows c (inr gone) = inr gone

module _ {S : Type 0} (disk : S → Disk) (moment : S → ℕ) (left_since : S → ℕ → Folder → Type 0)
    (now : (s : S) (t : ℕ) (c : Folder) → t ≤ moment s → LeftBy (disk s) c → left_since s t c) (old new : S) where
  pub place_quiet : (change : Place → Place) → Vanishes change → disk new ≡ with_place change (disk old)
      → Elapses (moment old) (moment new) (left_since old) (left_since new) (LeftBy (disk new)) → IsQuiet disk moment left_since old new
  place_quiet change vanishes is time =
      quiet moment left_since disk now old new (ap files_of is) (λ c left. place_left change (disk old) vanishes c (subst (λ (d : Disk). LeftBy d c) is left)) time

  pub names_quiet : (change : At → At) → ((at : At) → read_at (change at) ≡ read_at at) → Narrows change → disk new ≡ changed_names change (disk old)
      → Elapses (moment old) (moment new) (left_since old) (left_since new) (LeftBy (disk new)) → IsQuiet disk moment left_since old new
  names_quiet change reads narrows is time =
      quiet moment left_since disk now old new (ap files_of is ∙ fun_ext (λ n. reads ((disk old).named n))) (λ c left. names_left change (disk old) narrows c (subst (λ (d : Disk). LeftBy d c) is left)) time
