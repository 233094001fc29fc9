-- A folder is new where none of its files is a mailbox's, and it is there once it was made or found.
use Rattle.std.proofs.Common.{◌≡◌, ℕ, Bool, true, false, ◌||◌, List, [], ◌∷◌, fold, Option, Some, None, Result, Ok, Err, OnOk, refl, sym, ◌∙◌, ap}
use Rattle.std.specs.Prelude.{Any, Contains, IsSome, MatchBool}
use Rattle.std.specs.List.{list_any}
use Rattle.std.proofs.lemmas.Bool.{false≢true, true≢false}
use Rattle.std.proofs.lemmas.List.Folds.{Any-from_list_any, list_any_at}
use Rattle.dv_shelf.specs.declared.shelf.Name.{Name}
use Rattle.dv_shelf.specs.declared.shelf.Name.TheVariants as name
use Rattle.dv_shelf.specs.Folders.{IsNew, is_of_mailbox}
use Rattle.dv_system.specs.declared.system.Entry.{Entry}
use Rattle.dv_system.specs.declared.system.Entry.TheVariants.{File, Temporary}
use Rattle.dv_system.specs.Entries.{read_at}
use Rattle.dv_system.specs.Disks.{Disk, Place, Missing, Loose, Doubted, Firm, ListsEntries, at_entry, files_of, is_missing, made_place, firm_place, doubted_place}
use Rattle.dv_memory_system.specs.declared.step.Deed.{Deed}
use Rattle.dv_memory_system.specs.declared.step.Deed.TheVariants as deed
use Rattle.dv_memory_system.specs.declared.step.Step.{Step}
use Rattle.dv_memory_system.specs.Listing.{is_mailbox_entry, makes_folder}
use Rattle.dv_memory_system.specs.Steps.{deed_then, disk_after, new_disk, step_then}

none_or : (file : Option (List ℕ)) → (IsSome file → ⊥) → file ≡ None
none_or None lacks = refl
none_or (Some text) lacks = absurd (lacks refl)

lacks : (file : Option (List ℕ)) → file ≡ None → IsSome file → ⊥
lacks None is some = absurd cc
lacks (Some text) is some = absurd cc

module _ (disk : Disk) (entries : List Entry) (lists : ListsEntries disk entries) where
  absent : list_any is_mailbox_entry entries ≡ false → (n : Name) → is_of_mailbox n ≡ true → files_of disk n ≡ None
  absent none n mailbox = none_or (files_of disk n) (λ some. among ((lists.each (File n)).0 some))
    where
      among : Contains entries (File n) → ⊥
      among has =
          let any : list_any is_mailbox_entry entries ≡ true = list_any_at is_mailbox_entry entries has.0 (File n) has.1 (ap is_mailbox_entry has.2 ∙ mailbox) in
          absurd (true≢false (sym any ∙ none))

  none_new : list_any is_mailbox_entry entries ≡ false → IsNew (files_of disk)
  none_new none = record { index = absent none name.Index refl; log = absent none name.Log refl; log2 = absent none name.Log2 refl; mail = λ n. absent none (name.Mail n) refl }

  some_old : (e : Entry) → is_mailbox_entry e ≡ true → IsSome (read_at (at_entry disk e)) → IsNew (files_of disk) → ⊥
  some_old (File name.Index) is some new = lacks (files_of disk name.Index) new.index some
  some_old (File name.Log) is some new = lacks (files_of disk name.Log) new.log some
  some_old (File name.Log2) is some new = lacks (files_of disk name.Log2) new.log2 some
  some_old (File name.Cache) is some new = absurd (false≢true is)
  some_old (File (name.Mail n)) is some new = lacks (files_of disk (name.Mail n)) (new.mail n) some
  some_old Temporary is some new = absurd (false≢true is)

  any_old : list_any is_mailbox_entry entries ≡ true → IsNew (files_of disk) → ⊥
  any_old any new = of_one (Any-from_list_any is_mailbox_entry entries any)
    where
      of_one : Any (λ (e : Entry). is_mailbox_entry e ≡ true) entries → ⊥
      of_one (k, e, lt, at, mailbox) =
          let has : Contains entries e = (k, lt, at) in
          some_old e mailbox ((lists.each e).1 has) new

  pub new_or_not : (b : Bool) → b ≡ list_any is_mailbox_entry entries → MatchBool b (IsNew (files_of disk) → ⊥) (IsNew (files_of disk))
  new_or_not true is = any_old (sym is)
  new_or_not false is = none_new (sym is)

-- ---- the folder itself

abbrev Keeps : (Place → Place) → Type 0
Keeps change = (place : Place) → is_missing place ≡ false → is_missing (change place) ≡ false

keeps_made : Keeps made_place
keeps_made Missing is = absurd (cc)
keeps_made Loose is = refl
keeps_made Doubted is = refl
keeps_made Firm is = refl

keeps_firm : Keeps firm_place
keeps_firm Missing is = absurd (cc)
keeps_firm Loose is = refl
keeps_firm Doubted is = refl
keeps_firm Firm is = refl

keeps_doubted : Keeps doubted_place
keeps_doubted Missing is = absurd (cc)
keeps_doubted Loose is = refl
keeps_doubted Doubted is = refl
keeps_doubted Firm is = refl

made : (place : Place) → is_missing (made_place place) ≡ false
made Missing = refl
made Loose = refl
made Doubted = refl
made Firm = refl

stays_there : (disk : Disk) (bytes : List ℕ) (d : Deed) → is_missing disk.place ≡ false → is_missing (deed_then disk bytes d).place ≡ false
stays_there disk bytes deed.FoundFolder is = refl
stays_there disk bytes deed.MakeFolder is = made disk.place
stays_there disk bytes (deed.SyncParent true) is = keeps_firm disk.place is
stays_there disk bytes (deed.SyncParent false) is = keeps_doubted disk.place is
stays_there disk bytes (deed.SyncFolder true) is = is
stays_there disk bytes (deed.SyncFolder false) is = is
stays_there disk bytes (deed.Rename name true) is = is
stays_there disk bytes (deed.Rename name false) is = is
stays_there disk bytes (deed.File (File name) change) is = is
stays_there disk bytes (deed.File Temporary change) is = is

comes_there : (disk : Disk) (bytes : List ℕ) (d : Deed) → makes_folder d ≡ true → is_missing (deed_then disk bytes d).place ≡ false
comes_there disk bytes deed.FoundFolder makes = refl
comes_there disk bytes deed.MakeFolder makes = made disk.place
comes_there disk bytes (deed.SyncParent is_done) makes = absurd (false≢true makes)
comes_there disk bytes (deed.SyncFolder is_done) makes = absurd (false≢true makes)
comes_there disk bytes (deed.Rename name is_seen) makes = absurd (false≢true makes)
comes_there disk bytes (deed.File there change) makes = absurd (false≢true makes)

still_there : (steps : List Step) (disk : Disk) → is_missing disk.place ≡ false → is_missing (fold step_then disk steps).place ≡ false
still_there [] disk is = is
still_there (step ∷ steps) disk is = still_there steps (step_then disk step) (stays_there disk step.bytes step.deed is)

there_behind : (steps : List Step) (disk : Disk) → list_any (λ (s : Step). makes_folder s.deed) steps ≡ true → is_missing (fold step_then disk steps).place ≡ false
there_behind [] disk any = absurd (false≢true any)
there_behind (step ∷ steps) disk any = by_first (makes_folder step.deed) refl (λ later. there_behind steps (step_then disk step) later)
  where
    by_first : (b : Bool) → makes_folder step.deed ≡ b → (list_any (λ (s : Step). makes_folder s.deed) steps ≡ true → is_missing (fold step_then (step_then disk step) steps).place ≡ false)
        → is_missing (fold step_then (step_then disk step) steps).place ≡ false
    by_first true makes behind = still_there steps (step_then disk step) (comes_there disk step.bytes step.deed makes)
    by_first false away behind = behind (sym (ap (λ (b : Bool). b || list_any (λ (s : Step). makes_folder s.deed) steps) away) ∙ any)

pub folder_there : (steps : List Step) → list_any (λ (s : Step). makes_folder s.deed) steps ≡ true → is_missing (disk_after steps).place ≡ false
folder_there steps any = there_behind steps new_disk any

pub on_ok : {T E P : Type 0} (r : Result T E) → P → OnOk r P
on_ok (Ok x) is = is
on_ok (Err e) is = tt
