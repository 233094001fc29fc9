-- What is known of an entry, behind each change of it.
use Rattle.std.proofs.Common.{◌≡◌, ◌≢◌, ◌⊎◌, inl, inr, ℕ, ◌+◌, ◌≤◌, Bool, true, false, cond, List, [], ◌∷◌, ◌++◌, length, take, get_or, min, ◌<◌, All, Option, Some, refl, sym, ◌∙◌, ap, subst, arith}
use Rattle.std.proofs.lemmas.List.{take_all, take_more, length-take}
use Rattle.std.proofs.lemmas.List.Sums.{fold-append}
use Rattle.std.proofs.lemmas.List.Elements.{All-append, All-cons, All-nil, All-weaker}
use Rattle.dv_shelf.specs.declared.shelf.Name.{Name}
use Rattle.dv_shelf.specs.Disks.{Version, Gone, version_bytes, version_written, settled_version}
use Rattle.dv_shelf.specs.Folders.{same_name}
use Rattle.dv_shelf.specs.Images.{IsFileImage, IsImageOfOne}
use Rattle.dv_shelf.proofs.FolderLemmas.{is_same}
use Rattle.dv_system.specs.declared.system.Entry.TheVariants as entry
use Rattle.dv_system.specs.Entries.{At, absent, put_at, hidden_at, written_at, synced_at, swept_at}
use Rattle.dv_system.specs.Disks.{Disk, changed}
use Rattle.dv_system.proofs.Named.{named_here, named_else}
use Rattle.dv_memory_system.specs.declared.samples.Samples.{Samples}
use Rattle.dv_memory_system.specs.declared.state.State.{State}
use Rattle.dv_memory_system.specs.declared.state.States.{States}
use Rattle.dv_memory_system.specs.declared.step.Deed.TheVariants as deed
use Rattle.dv_memory_system.specs.declared.step.Step.{Step}
use Rattle.dv_memory_system.specs.Steps.{deed_then, disk_after, folder_synced_at, found_at, new_disk, renamed_so, step_then}
use Rattle.dv_memory_system.specs.States.{AreSamples, AreShown, IsShown}

abbrev pub three : Samples → List (Option (List ℕ))
three samples = samples.read ∷ samples.synced ∷ samples.torn ∷ []

three_are : (versions : List Version) (samples : Samples) → IsImageOfOne versions samples.read → IsImageOfOne versions samples.synced → IsImageOfOne versions samples.torn
    → All (IsImageOfOne versions) (three samples)
three_are versions samples read synced torn =
    let P = IsImageOfOne versions in
    All-cons P samples.read (samples.synced ∷ samples.torn ∷ []) read (All-cons P samples.synced (samples.torn ∷ []) synced (All-cons P samples.torn [] torn (All-nil P)))

one_of_last : (others : List Version) (version : Version) (file : Option (List ℕ)) → IsFileImage version file → IsImageOfOne (others ++ version ∷ []) file
one_of_last [] version file is = inl is
one_of_last (v ∷ others) version file is = inr (one_of_last others version file is)

one_of_more : (others : List Version) (version : Version) (file : Option (List ℕ)) → IsImageOfOne others file → IsImageOfOne (others ++ version ∷ []) file
one_of_more [] version file is = absurd is
one_of_more (v ∷ others) version file (inl is) = inl is
one_of_more (v ∷ others) version file (inr is) = inr (one_of_more others version file is)

-- another file stands there
pub put_shown : (at : At) (version : Version) (doubted : Bool) (old : State) (first : Samples) (others : List (Option (List ℕ))) → others ≡ old.others ++ three old.first
    → IsShown at old → AreSamples version first
    → IsShown (put_at version doubted at) (record { first = first; others = others; is_doubted = doubted; is_unsure = false })
put_shown at version doubted old first others is shown are = record {
  first = are;
  others = subst (All (IsImageOfOne (at.first ∷ at.others))) (sym is)
      (All-append (IsImageOfOne (at.first ∷ at.others)) old.others (three old.first) (All-weaker (IsImageOfOne at.others) (IsImageOfOne (at.first ∷ at.others)) (λ file one. inr one) old.others shown.others)
      (three_are (at.first ∷ at.others) old.first (inl shown.first.read) (inl shown.first.synced) (inl shown.first.torn)));
  doubted = refl;
  unsure = refl;
}

-- another file is hidden there
pub hidden_shown : (at : At) (version : Version) (old : State) (first : Samples) (others : List (Option (List ℕ))) → others ≡ old.others ++ three first
    → IsShown at old → AreSamples version first
    → IsShown (hidden_at version at) (record { first = old.first; others = others; is_doubted = old.is_doubted; is_unsure = old.is_unsure })
hidden_shown at version old first others is shown are = record {
  first = shown.first;
  others = subst (All (IsImageOfOne (at.others ++ version ∷ []))) (sym is)
      (All-append (IsImageOfOne (at.others ++ version ∷ [])) old.others (three first) (All-weaker (IsImageOfOne at.others) (IsImageOfOne (at.others ++ version ∷ [])) (λ file one. one_of_more at.others version file one) old.others shown.others)
      (three_are (at.others ++ version ∷ []) first (one_of_last at.others version _ are.read) (one_of_last at.others version _ are.synced) (one_of_last at.others version _ are.torn)));
  doubted = shown.doubted;
  unsure = shown.unsure;
}

none_of : (versions : List Version) (others : List (Option (List ℕ))) → others ≡ [] → All (IsImageOfOne versions) others
none_of versions others none = subst (All (IsImageOfOne versions)) (sym none) (All-nil (IsImageOfOne versions))

-- no file, and a durable one
pub absent_shown : (first : Samples) (others : List (Option (List ℕ))) → AreSamples Gone first → others ≡ []
    → IsShown absent (record { first = first; others = others; is_doubted = false; is_unsure = false })
absent_shown first others are none = record { first = are; others = none_of [] others none; doubted = refl; unsure = refl }

pub found_shown : (bytes : List ℕ) (at : At) (file : List ℕ) (first : Samples) (others : List (Option (List ℕ))) → file ≡ bytes → AreSamples (settled_version (Some file)) first → others ≡ []
    → IsShown (found_at bytes at) (record { first = first; others = others; is_doubted = false; is_unsure = false })
found_shown bytes at file first others is are none = record {
  first = subst (λ (b : List ℕ). AreSamples (settled_version (Some b)) first) is are;
  others = none_of [] others none;
  doubted = refl;
  unsure = refl;
}

-- the bytes of a write that stuck
pub seen_front : (bytes : List ℕ) (stuck m n : ℕ) (seen : List ℕ) → seen ≡ take m bytes → m ≡ min stuck n → n ≡ length bytes → seen ≡ take stuck bytes
seen_front bytes stuck m n seen is least long = is ∙ by_cases (le_cases stuck (length bytes))
  where
    le_cases : (a b : ℕ) → (a ≤ b) ⊎ (b ≤ a)
    le_cases a b = grind arith

    by_cases : (stuck ≤ length bytes) ⊎ (length bytes ≤ stuck) → take m bytes ≡ take stuck bytes
    by_cases (inl le) = ap (λ (k : ℕ). take k bytes) (let same : m ≡ stuck = omega arith in same)
    by_cases (inr ge) = take_all m bytes (omega arith) ∙ sym (take_all stuck bytes ge)

pub seen_short : (bytes : List ℕ) (m : ℕ) (seen : List ℕ) → seen ≡ take m bytes → length seen ≤ length bytes
seen_short bytes m seen is = omega (arith, ap length is, length-take m bytes)

pub written_shown : (a : At) (place : ℕ) (bytes : List ℕ) (stuck : ℕ) (seen : List ℕ) (old : State) (first : Samples) → seen ≡ take stuck bytes
    → AreSamples (version_written place (length bytes) seen a.first) first → IsShown a old
    → IsShown (written_at place (length bytes) (take stuck bytes) a) (record { first = first; others = old.others; is_doubted = old.is_doubted; is_unsure = old.is_unsure })
written_shown a place bytes stuck seen old first is are shown = record {
  first = subst (λ (s : List ℕ). AreSamples (version_written place (length bytes) s a.first) first) is are;
  others = shown.others;
  doubted = shown.doubted;
  unsure = shown.unsure;
}

-- a sync of a file on which one failed, or none did
pub synced_doubted : (at : At) (old : State) → old.is_doubted ≡ true → IsShown at old → IsShown (synced_at at) old
synced_doubted at old doubted shown = record {
  first = subst (λ (b : Bool). AreSamples (cond b at.first (settled_version (version_bytes at.first))) old.first) (sym doubted ∙ shown.doubted) shown.first;
  others = shown.others;
  doubted = shown.doubted;
  unsure = shown.unsure;
}

pub synced_shown : (at : At) (old : State) (first : Samples) → old.is_doubted ≡ false → AreSamples (settled_version old.first.read) first → IsShown at old
    → IsShown (synced_at at) (record { first = first; others = old.others; is_doubted = old.is_doubted; is_unsure = old.is_unsure })
synced_shown at old first sure are shown = record {
  first = subst (λ (b : Bool). AreSamples (cond b at.first (settled_version (version_bytes at.first))) first) (sym sure ∙ shown.doubted)
      (subst (λ (file : Option (List ℕ)). AreSamples (settled_version file) first) shown.first.reads are);
  others = shown.others;
  doubted = shown.doubted;
  unsure = shown.unsure;
}

-- a sync of the folder
pub swept_unsure : (at : At) (old : State) → old.is_unsure ≡ true → IsShown at old → IsShown (swept_at at) old
swept_unsure at old unsure shown = record {
  first = shown.first;
  others = subst (λ (b : Bool). All (IsImageOfOne (cond b at.others [])) old.others) (sym unsure ∙ shown.unsure) shown.others;
  doubted = shown.doubted;
  unsure = shown.unsure;
}

pub swept_shown : (at : At) (old : State) (others : List (Option (List ℕ))) → old.is_unsure ≡ false → others ≡ [] → IsShown at old
    → IsShown (swept_at at) (record { first = old.first; others = others; is_doubted = old.is_doubted; is_unsure = old.is_unsure })
swept_shown at old others sure none shown = record {
  first = shown.first;
  others = none_of (cond at.is_unsure at.others []) others none;
  doubted = shown.doubted;
  unsure = shown.unsure;
}

-- ---- the entry of a name, and the temporary one

pub here_changed : (f : At → At) (disk : Disk) (name : Name) (old : States) (here : State) → AreShown name disk old → (IsShown (disk.named name) old.here → IsShown (f (disk.named name)) here)
    → AreShown name (changed f disk (entry.File name)) (record { here = here; temporary = old.temporary })
here_changed f disk name old here are becomes = record {
  here = subst (λ (at : At). IsShown at here) (sym (named_here disk.named name (f (disk.named name)))) (becomes are.here);
  temporary = are.temporary;
}

pub other_changed : (f : At → At) (disk : Disk) (name other : Name) (old : States) → other ≢ name → AreShown name disk old → AreShown name (changed f disk (entry.File other)) old
other_changed f disk name other old differs are = record {
  here = subst (λ (at : At). IsShown at old.here) (sym (named_else disk.named other (f (disk.named other)) name (λ same. differs (sym same)))) are.here;
  temporary = are.temporary;
}

pub temporary_took : (disk : Disk) (name : Name) (here temporary : State)
    → IsShown (put_at disk.temporary.first disk.temporary.is_doubted (disk.named name)) here → IsShown absent temporary
    → AreShown name (renamed_so true disk name) (record { here = here; temporary = temporary })
temporary_took disk name here temporary is none = record {
  here = subst (λ (at : At). IsShown at here) (sym (named_here disk.named name _)) is;
  temporary = none;
}

pub temporary_hid : (disk : Disk) (name : Name) (here : State) (old : States) → AreShown name disk old
    → IsShown (hidden_at disk.temporary.first (disk.named name)) here
    → AreShown name (renamed_so false disk name) (record { here = here; temporary = old.temporary })
temporary_hid disk name here old are is = record {
  here = subst (λ (at : At). IsShown at here) (sym (named_here disk.named name _)) is;
  temporary = are.temporary;
}

pub took_another : (disk : Disk) (name other : Name) (old : States) (temporary : State) → other ≢ name → AreShown name disk old → IsShown absent temporary
    → AreShown name (renamed_so true disk other) (record { here = old.here; temporary = temporary })
took_another disk name other old temporary differs are none = record {
  here = subst (λ (at : At). IsShown at old.here) (sym (named_else disk.named other _ name (λ same. differs (sym same)))) are.here;
  temporary = none;
}

pub hid_at_another : (disk : Disk) (name other : Name) (old : States) → other ≢ name → AreShown name disk old → AreShown name (renamed_so false disk other) old
hid_at_another disk name other old differs are =
    other_changed (hidden_at disk.temporary.first) disk name other old differs are

-- ---- behind some calls

pub none_shown : (name : Name) (here temporary : State) → IsShown absent here → IsShown absent temporary → AreShown name new_disk (record { here = here; temporary = temporary })
none_shown name here temporary a b = record { here = a; temporary = b }

pub shown_more : (name : Name) (steps : List Step) (i : ℕ) (step : Step) (states : States) → i < length steps → step ≡ get_or steps i step
    → AreShown name (step_then (disk_after (take i steps)) step) states → AreShown name (disk_after (take (i + 1) steps)) states
shown_more name steps i step states lt is are =
    subst (λ (disk : Disk). AreShown name disk states)
    (sym (ap disk_after (take_more steps i step lt ∙ ap (λ (s : Step). take i steps ++ s ∷ []) (sym is)) ∙ fold-append step_then new_disk (take i steps) (step ∷ []))) are

pub shown_all : (name : Name) (steps : List Step) (i : ℕ) (states : States) → length steps ≤ i → AreShown name (disk_after (take i steps)) states → AreShown name (disk_after steps) states
shown_all name steps i states le are = subst (λ (l : List Step). AreShown name (disk_after l) states) (take_all i steps le) are

-- calls that change no file
pub parent_shown : (is_done : Bool) (bytes : List ℕ) (name : Name) (disk : Disk) (states : States) → AreShown name disk states → AreShown name (deed_then disk bytes (deed.SyncParent is_done)) states
parent_shown true bytes name disk states are = record { here = are.here; temporary = are.temporary }
parent_shown false bytes name disk states are = record { here = are.here; temporary = are.temporary }

pub folder_shown : (is_done : Bool) (bytes : List ℕ) (name : Name) (disk : Disk) (states : States) (here : State) → AreShown name disk states → IsShown (folder_synced_at is_done (disk.named name)) here
    → AreShown name (deed_then disk bytes (deed.SyncFolder is_done)) (record { here = here; temporary = states.temporary })
folder_shown true bytes name disk states here are is = record { here = is; temporary = are.temporary }
folder_shown false bytes name disk states here are is = record { here = is; temporary = are.temporary }

pub names_differ : (a b : Name) → same_name a b ≡ false → a ≢ b
names_differ a b differ same = let one : same_name a b ≡ true = is_same a b same in cc
