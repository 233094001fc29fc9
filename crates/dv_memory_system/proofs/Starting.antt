-- Files that stand there at the start.
use Rattle.std.proofs.Common.{◌≡◌, ℕ, ◌+◌, ◌<◌, ◌≤◌, Bool, true, false, cond, List, [], ◌∷◌, ◌++◌, length, take, get_or, Some, Result, Ok, Err, OnOk, refl, sym, ◌∙◌, ap, subst}
use Rattle.std.proofs.Math.Path.{fun_ext}
use Rattle.std.proofs.lemmas.List.{take_all, take_more}
use Rattle.std.proofs.lemmas.List.Sums.{fold-append}
use Rattle.dv_shelf.specs.declared.shelf.Name.{Name}
use Rattle.dv_shelf.specs.Folders.{Folder, folder_of, no_files, same_name, with_file}
use Rattle.dv_system.specs.declared.system.Entry.TheVariants as entry
use Rattle.dv_system.specs.Entries.{At, read_at}
use Rattle.dv_system.specs.Disks.{Disk, changed, with_place}
use Rattle.dv_disk.specs.States.{IsPlaceTrusted, IsTrusted, trusts, trusts_place}
use Rattle.dv_memory_system.specs.declared.step.Change.TheVariants.{Found}
use Rattle.dv_memory_system.specs.declared.step.Deed.TheVariants as deed
use Rattle.dv_memory_system.specs.declared.step.Step.{Step}
use Rattle.dv_memory_system.specs.Steps.{disk_after, found_at, found_place, with_step}
use Rattle.dv_memory_system.specs.Starts.{IsFound}
use Rattle.dv_memory_system.proofs.Moments.{disk_more}

is_found : (files : Folder) (a b : Disk) → a ≡ b → IsFound files b → IsFound files a
is_found files a b same is = subst (IsFound files) (sym same) is

pub folder_found : (old new : List Step) → old ≡ [] → new ≡ with_step old deed.FoundFolder [] → IsFound no_files (disk_after new)
folder_found old new none is =
    is_found no_files _ _ (disk_more old new deed.FoundFolder [] is ∙ ap (λ (l : List Step). with_place found_place (disk_after l)) none)
    (record { place = refl; trusted = λ n. refl; reads = refl })

file_found : (files : Folder) (disk : Disk) (name : Name) (bytes : List ℕ) → IsFound files disk → IsFound (with_file files name (Some bytes)) (changed (found_at bytes) disk (entry.File name))
file_found files disk name bytes is = record {
  place = is.place;
  trusted = λ n. trusted (same_name name n) n;
  reads = fun_ext (λ n. read (same_name name n) n);
}
  where
    found : At
    found = found_at bytes (disk.named name)

    trusted : (b : Bool) (n : Name) → trusts (cond b (found_at bytes (disk.named name)) (disk.named n)) ≡ true
    trusted true n = refl
    trusted false n = is.trusted n

    read : (b : Bool) (n : Name) → read_at (cond b (found_at bytes (disk.named name)) (disk.named n)) ≡ cond b (Some bytes) (files n)
    read true n = refl
    read false n = ap (λ (f : Folder). f n) is.reads

pub files_more : (folder : List (Name × List ℕ)) (i : ℕ) (file : Name × List ℕ) (bytes : List ℕ) (old new : List Step) → i < length folder → file ≡ get_or folder i file → bytes ≡ file.1
    → new ≡ with_step old (deed.File (entry.File file.0) Found) bytes → IsFound (folder_of (take i folder)) (disk_after old) → IsFound (folder_of (take (i + 1) folder)) (disk_after new)
files_more folder i file bytes old new lt here is more found =
    let one : folder_of (take (i + 1) folder) ≡ with_file (folder_of (take i folder)) file.0 (Some file.1) =
    ap folder_of (take_more folder i file lt ∙ ap (λ (x : Name × List ℕ). take i folder ++ x ∷ []) (sym here)) ∙ fold-append (λ f x. with_file f x.0 (Some x.1)) no_files (take i folder) (file ∷ []) in
    subst (λ (f : Folder). IsFound f (disk_after new)) (sym one)
    (subst (λ (b : List ℕ). IsFound (with_file (folder_of (take i folder)) file.0 (Some b)) (disk_after new)) is
    (is_found _ _ _ (disk_more old new (deed.File (entry.File file.0) Found) bytes more) (file_found (folder_of (take i folder)) (disk_after old) file.0 bytes found)))

pub temporary_found : (files : Folder) (bytes : List ℕ) (old new : List Step) → new ≡ with_step old (deed.File entry.Temporary Found) bytes → IsFound files (disk_after old) → IsFound files (disk_after new)
temporary_found files bytes old new is found =
    is_found files _ _ (disk_more old new (deed.File entry.Temporary Found) bytes is) (record { place = found.place; trusted = found.trusted; reads = found.reads })

pub found_trusted : (files : Folder) (disk : Disk) → IsFound files disk → IsTrusted false (Unit {0}) disk
found_trusted files disk is = λ never told. is.trusted

pub found_place_trusted : (files : Folder) (disk : Disk) → IsFound files disk → IsPlaceTrusted false (Unit {0}) disk
found_place_trusted files disk is = λ never told. ap trusts_place is.place

pub all_found : (folder seen : List (Name × List ℕ)) (i : ℕ) (disk : Disk) → seen ≡ folder → length seen ≤ i → IsFound (folder_of (take i seen)) disk → IsFound (folder_of folder) disk
all_found folder seen i disk is le found = subst (λ (l : List (Name × List ℕ)). IsFound (folder_of l) disk) (take_all i seen le ∙ is) found

pub temporary_ok : {T E : Type 0} (files : Folder) (bytes : List ℕ) (old new : List Step) (r : Result T E) → OnOk r (new ≡ with_step old (deed.File entry.Temporary Found) bytes) → IsFound files (disk_after old)
    → OnOk r (IsFound files (disk_after new))
temporary_ok files bytes old new (Ok x) is found = temporary_found files bytes old new is found
temporary_ok files bytes old new (Err e) is found = tt
