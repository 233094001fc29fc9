-- The names of the files that calls are on, and whether the folder may vanish.
use Rattle.std.proofs.Common.{◌≡◌, ◌≢◌, ◌⊎◌, inl, inr, ⊎_elim, ℕ, ◌+◌, ◌<◌, ◌≤◌, Bool, true, false, ◌||◌, List, [], ◌∷◌, ◌++◌, length, take, map, fold, get_or, Option, IsSome, Contains, refl, sym, ◌∙◌, ap, subst, arith}
use Rattle.std.specs.Prelude.{AllPairs}
use Rattle.std.specs.List.{list_any}
use Rattle.std.proofs.lemmas.List.{map-append, take_more, take_all}
use Rattle.std.proofs.lemmas.List.Elements.{All-nil, All-push, Contains-append_left, Contains-append_right, Contains-push, Contains-push_cases}
use Rattle.std.proofs.lemmas.List.Quantifiers.{all_pairs_push}
use Rattle.dv_shelf.specs.declared.shelf.Name.{Name}
use Rattle.dv_shelf.specs.Folders.{Folder, folder_of, has_name, no_files, same_name, with_file}
use Rattle.dv_shelf.specs.Samples.{AreNamesWith}
use Rattle.dv_shelf.proofs.FolderLemmas.{same_is, with_here, with_else}
use Rattle.dv_shelf.proofs.NameLemmas.{has_none}
use Rattle.dv_system.specs.declared.system.Entry.TheVariants as entry
use Rattle.dv_system.specs.Entries.{read_at, IsEntryImage}
use Rattle.dv_system.specs.Disks.{Disk, Place, Missing, Loose, Doubted, Firm, IsReadable, LeftBy, doubted_place, files_of, made_place, may_vanish}
use Rattle.dv_system.proofs.Named.{by_names}
use Rattle.dv_memory_system.specs.declared.step.Deed.{Deed}
use Rattle.dv_memory_system.specs.declared.step.Deed.TheVariants as deed
use Rattle.dv_memory_system.specs.declared.step.Step.{Step}
use Rattle.dv_memory_system.specs.Steps.{deed_then, disk_after, new_disk, step_then}
use Rattle.dv_memory_system.specs.Places.{name_of}
use Rattle.dv_memory_system.specs.Samples.{AreImages, firms, name_then}
use Rattle.dv_memory_system.proofs.Entries.{named_first}

-- the name of the file that a call is on
abbrev pub step_name : Step → Name
step_name step = name_of step.deed

-- a name and those of some others, once each
pub record HasNames (name : Name) (among names : List Name) : Type 0 where
  pub all : (n : Name) → Contains among n → Contains names n
  pub named : Contains names name
  pub once : AllPairs (λ a b. a ≢ b) names

pub first_name : (name : Name) (old names : List Name) → old ≡ [] → names ≡ old ++ name ∷ [] → HasNames name [] names
first_name name old names none is = subst (HasNames name []) (sym (is ∙ ap (λ (l : List Name). l ++ name ∷ []) none)) (record {
  all = λ n has. absurd (omega (arith, has.1));
  named = Contains-push [] name;
  once = all_pairs_push (λ a b. a ≢ b) [] name (λ i j d less below. absurd (omega arith)) (λ k d below. absurd (omega arith));
})

has-Contains : (names : List Name) (name : Name) → has_name names name ≡ true → Contains names name
has-Contains [] name is = absurd (cc)
has-Contains (n ∷ names) name is = found (same_name n name) refl (has-Contains names name)
  where
    found : (b : Bool) → same_name n name ≡ b → (has_name names name ≡ true → Contains names name) → Contains (n ∷ names) name
    found true same others = (0, omega arith, same_is n name same)
    found false same others = Contains-append_right (n ∷ []) names name (others (rw same at is))

names_push : (name : Name) (among names : List Name) (other : Name) → HasNames name among names → HasNames name (among ++ other ∷ []) (name_then names other)
names_push name among names other so_far = by_listed (has_name names other) refl
  where
    by_listed : (listed : Bool) → has_name names other ≡ listed → HasNames name (among ++ other ∷ []) (name_then names other)
    by_listed true listed = rw listed (record {
      all = λ n has. ⊎_elim (so_far.all n) (λ same. subst (λ (m : Name). Contains names m) same (has-Contains names other listed)) (Contains-push_cases among other n has);
      named = so_far.named;
      once = so_far.once;
    })
    by_listed false listed = rw listed (record {
      all = λ n has. ⊎_elim (λ old. Contains-append_left names (other ∷ []) n (so_far.all n old)) (λ same. subst (λ (m : Name). Contains (names ++ other ∷ []) m) same (Contains-push names other)) (Contains-push_cases among other n has);
      named = Contains-append_left names (other ∷ []) name so_far.named;
      once = all_pairs_push (λ a b. a ≢ b) names other so_far.once (has_none names other listed);
    })

pub names_more : (name : Name) (steps : List Step) (i : ℕ) (step : Step) (before after : List Name) → i < length steps → step ≡ get_or steps i step
    → HasNames name (map step_name (take i steps)) before → after ≡ name_then before (step_name step)
    → HasNames name (map step_name (take (i + 1) steps)) after
names_more name steps i step before after lt is so_far now =
    let seen : map step_name (take (i + 1) steps) ≡ map step_name (take i steps) ++ step_name step ∷ [] =
    ap (map step_name) (take_more steps i step lt ∙ ap (λ (s : Step). take i steps ++ s ∷ []) (sym is)) ∙ map-append step_name (take i steps) (step ∷ []) in
    subst (λ (l : List Name). HasNames name (map step_name (take (i + 1) steps)) l) (sym now)
    (subst (λ (l : List Name). HasNames name l (name_then before (step_name step))) (sym seen) (names_push name (map step_name (take i steps)) before (step_name step) so_far))

named : (steps : List Step) (disk : Disk) (n : Name) → IsSome (read_at ((fold step_then disk steps).named n))
    → IsSome (read_at (disk.named n)) ⊎ Contains (map step_name steps) n
named [] disk n some = inl some
named (step ∷ steps) disk n some =
    ⊎_elim
    (λ there. ⊎_elim inl (λ is. inr (0, omega arith, is)) (named_first disk step.bytes step.deed n there))
    (λ has. inr (Contains-append_right (step_name step ∷ []) (map step_name steps) n has))
    (named steps (step_then disk step) n some)

pub all_names : (name : Name) (steps : List Step) (i : ℕ) (names : List Name) → length steps ≤ i → HasNames name (map step_name (take i steps)) names
    → AreNamesWith (files_of (disk_after steps)) name names
all_names name steps i names le has =
    let whole = subst (λ (l : List Step). HasNames name (map step_name l) names) (take_all i steps le) has in
    record {
      all = λ n some. whole.all n (⊎_elim (λ there. absurd (cc)) (λ is. is) (named steps new_disk n some));
      named = whole.named;
      once = whole.once;
    }

pub names_seen : (name : Name) (steps seen : List Step) (i : ℕ) (names : List Name) → seen ≡ steps → length seen ≤ i → HasNames name (map step_name (take i seen)) names
    → AreNamesWith (files_of (disk_after steps)) name names
names_seen name steps seen i names is le has =
    subst (λ (l : List Step). AreNamesWith (files_of (disk_after l)) name names) is (all_names name seen i names le has)

-- ---- a file in the place of another

pub one_left : (disk : Disk) (name : Name) (file : Option (List ℕ)) (folder : Folder) → IsReadable disk → IsEntryImage (disk.named name) file
    → folder ≡ with_file (files_of disk) name file → LeftBy disk folder
unfolding LeftBy
one_left disk name file folder readable is same = inl (λ n. subst (λ (f : Folder). IsEntryImage (disk.named n) (f n)) (sym same) (⊎_elim (here n) (there n) (by_names n name)))
  where
    here : (n : Name) → n ≡ name → IsEntryImage (disk.named n) (with_file (files_of disk) name file n)
    here n one =
        let P : Name → Type 0 = λ m. IsEntryImage (disk.named m) (with_file (files_of disk) name file m) in
        subst P (sym one) (subst (IsEntryImage (disk.named name)) (sym (with_here (files_of disk) name file)) is)

    there : (n : Name) → n ≢ name → IsEntryImage (disk.named n) (with_file (files_of disk) name file n)
    there n other = subst (IsEntryImage (disk.named n)) (sym (with_else (files_of disk) name file n other)) (inl (readable n))

pub image_more : (disk : Disk) (old new : List (List (Name × List ℕ))) (image : List (Name × List ℕ)) → new ≡ old ++ image ∷ [] → LeftBy disk (folder_of image)
    → AreImages disk old → AreImages disk new
image_more disk old new image is left are = subst (AreImages disk) (sym is) (All-push (λ (i : List (Name × List ℕ)). LeftBy disk (folder_of i)) old image are left)

pub no_images : (disk : Disk) (images : List (List (Name × List ℕ))) → images ≡ [] → AreImages disk images
no_images disk images none = subst (AreImages disk) (sym none) (All-nil (λ (i : List (Name × List ℕ)). LeftBy disk (folder_of i)))

-- ---- the folder itself may vanish

stays_loose : (disk : Disk) (bytes : List ℕ) (d : Deed) → firms d ≡ false → may_vanish disk.place ≡ true → may_vanish (deed_then disk bytes d).place ≡ true
stays_loose disk bytes deed.FoundFolder none is = absurd (cc)
stays_loose disk bytes deed.MakeFolder none is = made disk.place is
  where
    made : (place : Place) → may_vanish place ≡ true → may_vanish (made_place place) ≡ true
    made Missing is = refl
    made Loose is = refl
    made Doubted is = refl
    made Firm is = is
stays_loose disk bytes (deed.SyncParent true) none is = absurd (cc)
stays_loose disk bytes (deed.SyncParent false) none is = doubted disk.place is
  where
    doubted : (place : Place) → may_vanish place ≡ true → may_vanish (doubted_place place) ≡ true
    doubted Missing is = refl
    doubted Loose is = refl
    doubted Doubted is = refl
    doubted Firm is = is
stays_loose disk bytes (deed.SyncFolder true) none is = is
stays_loose disk bytes (deed.SyncFolder false) none is = is
stays_loose disk bytes (deed.Rename name true) none is = is
stays_loose disk bytes (deed.Rename name false) none is = is
stays_loose disk bytes (deed.File (entry.File name) change) none is = is
stays_loose disk bytes (deed.File entry.Temporary change) none is = is

never_firm : (steps : List Step) (disk : Disk) → list_any (λ (s : Step). firms s.deed) steps ≡ false → may_vanish disk.place ≡ true → may_vanish (fold step_then disk steps).place ≡ true
never_firm [] disk none is = is
never_firm (step ∷ steps) disk none is =
    let first : firms step.deed ≡ false = neither (firms step.deed) (list_any (λ (s : Step). firms s.deed) steps) none in
    never_firm steps (step_then disk step) (rest (firms step.deed) (list_any (λ (s : Step). firms s.deed) steps) none) (stays_loose disk step.bytes step.deed first is)
  where
    neither : (a b : Bool) → a || b ≡ false → a ≡ false
    neither true b none = absurd (cc)
    neither false b none = refl

    rest : (a b : Bool) → a || b ≡ false → b ≡ false
    rest true b none = absurd (cc)
    rest false b none = none

pub no_folder : (steps : List Step) → list_any (λ (s : Step). firms s.deed) steps ≡ false → LeftBy (disk_after steps) no_files
unfolding LeftBy
no_folder steps none = inr (never_firm steps new_disk none refl, λ n. refl)

pub missing_left : (steps : List Step) (image : List (Name × List ℕ)) → image ≡ [] → list_any (λ (s : Step). firms s.deed) steps ≡ false → LeftBy (disk_after steps) (folder_of image)
missing_left steps image none loose = subst (λ (i : List (Name × List ℕ)). LeftBy (disk_after steps) (folder_of i)) (sym none) (no_folder steps loose)
