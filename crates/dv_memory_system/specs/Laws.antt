-- What a system in memory keeps of the laws of the trait: a crash may leave each file as reads give
-- it, and what it may leave now is what it might have left at some time and what it might have
-- left last.
use Rattle.std.proofs.Common.{◌≡◌, ℕ, ◌≤◌, Bool, true, false, cond, List, [], ◌∷◌, length, take, fold, Some, sym, subst, arith}
use Rattle.std.proofs.lemmas.List.{take_all, length-take}
use Rattle.dv_shelf.specs.declared.shelf.Name.{Name}
use Rattle.dv_shelf.specs.Folders.{Folder, same_name}
use Rattle.dv_shelf.specs.Disks.{Version, version_bytes, settled_version}
use Rattle.dv_shelf.specs.Images.{IsFileImage}
use Rattle.dv_shelf.specs.Laws.{IsReadable as IsReadableVersion, settled_readable, written_readable}
use Rattle.dv_system.specs.declared.system.Entry.{Entry}
use Rattle.dv_system.specs.declared.system.Entry.TheVariants as entry
use Rattle.dv_system.specs.Entries.{At, read_at}
use Rattle.dv_system.specs.Disks.{Disk, IsReadable, LeftBy, changed}
use Rattle.dv_memory_system.specs.declared.step.Change.{Change}
use Rattle.dv_memory_system.specs.declared.step.Change.TheVariants.{Found, Create, Write, Sync, Unlink}
use Rattle.dv_memory_system.specs.declared.step.Deed.{Deed}
use Rattle.dv_memory_system.specs.declared.step.Deed.TheVariants as deed
use Rattle.dv_memory_system.specs.declared.step.Step.{Step}
use Rattle.dv_memory_system.specs.declared.system.MemSystem.{MemSystem}
use Rattle.dv_memory_system.specs.Steps.{change_at, deed_then, disk_after, new_disk, step_then}
use Rattle.dv_memory_system.specs.Systems.{disk_of, left_of, moment_of}

-- the file that stands at an entry, as reads give it, is one of its images
abbrev IsReadableAt : At → Type 0
IsReadableAt at = IsFileImage at.first (read_at at)

synced_readable : (doubted : Bool) (first : Version) → IsReadableVersion first
    → IsReadableVersion (cond doubted first (settled_version (version_bytes first)))
synced_readable true first is = is
synced_readable false first is = settled_readable (version_bytes first)

pub change_readable : (change : Change) (bytes : List ℕ) (at : At) → IsReadableAt at
    → IsReadableAt (change_at change bytes at)
change_readable Found bytes at is = settled_readable (Some bytes)
change_readable (Create true) bytes at is = settled_readable (Some [])
change_readable (Create false) bytes at is = is
change_readable (Write place stuck) bytes at is =
    written_readable place (length bytes) (take stuck bytes) at.first
    (omega (arith, length-take stuck bytes)) is
change_readable (Sync true) bytes at is = synced_readable at.is_doubted at.first is
change_readable (Sync false) bytes at is = is
change_readable (Unlink true) bytes at is = tt
change_readable (Unlink false) bytes at is = is

either_readable : (b : Bool) (one other : At) → IsReadableAt one → IsReadableAt other
    → IsReadableAt (cond b one other)
either_readable true one other is was = is
either_readable false one other is was = was

-- so of each name, and of the temporary file
pub record AreReadable (disk : Disk) : Type 0 where
  pub named : (n : Name) → IsReadableAt (disk.named n)
  pub temporary : IsReadableAt disk.temporary

changed_readable : (f : At → At) (disk : Disk) (e : Entry)
    → ((at : At) → IsReadableAt at → IsReadableAt (f at)) → AreReadable disk
    → AreReadable (changed f disk e)
changed_readable f disk (entry.File name) keeps are = record {
  named = λ n. either_readable (same_name name n) _ _ (keeps (disk.named name) (are.named name)) (are.named n);
  temporary = are.temporary;
}
changed_readable f disk entry.Temporary keeps are =
    record { named = are.named; temporary = keeps disk.temporary are.temporary }

deed_readable : (disk : Disk) (bytes : List ℕ) (d : Deed) → AreReadable disk
    → AreReadable (deed_then disk bytes d)
deed_readable disk bytes deed.FoundFolder are = record { named = are.named; temporary = are.temporary }
deed_readable disk bytes deed.MakeFolder are = record { named = are.named; temporary = are.temporary }
deed_readable disk bytes (deed.SyncParent true) are = record { named = are.named; temporary = are.temporary }
deed_readable disk bytes (deed.SyncParent false) are = record { named = are.named; temporary = are.temporary }
deed_readable disk bytes (deed.SyncFolder true) are = record { named = are.named; temporary = are.temporary }
deed_readable disk bytes (deed.SyncFolder false) are = record { named = are.named; temporary = are.temporary }
deed_readable disk bytes (deed.Rename name true) are = record {
  named = λ n. either_readable (same_name name n) _ _ are.temporary (are.named n);
  temporary = tt;
}
deed_readable disk bytes (deed.Rename name false) are = record {
  named = λ n. either_readable (same_name name n) _ _ (are.named name) (are.named n);
  temporary = are.temporary;
}
deed_readable disk bytes (deed.File e change) are =
    changed_readable (change_at change bytes) disk e (change_readable change bytes) are

fold_readable : (steps : List Step) (disk : Disk) → AreReadable disk
    → AreReadable (fold step_then disk steps)
fold_readable [] disk are = are
fold_readable (step ∷ steps) disk are =
    fold_readable steps (step_then disk step) (deed_readable disk step.bytes step.deed are)

pub readable : (steps : List Step) → AreReadable (disk_after steps)
readable steps = fold_readable steps new_disk (record { named = λ n. tt; temporary = tt })

-- a crash may leave each file as reads give it
pub files_readable : (system : MemSystem) → IsReadable (disk_of system)
files_readable system n = (readable system.steps).named n

-- what a crash may leave now it might have left since any earlier moment
pub left_now : (system : MemSystem) (t : ℕ) (c : Folder) → t ≤ moment_of system
    → LeftBy (disk_of system) c → left_of system t c
left_now system t c le is =
    let steps = system.steps in
    let P : List Step → Type 0 = λ l. LeftBy (disk_after l) c in
    (length steps, le, omega arith, subst P (sym (take_all (length steps) steps (omega arith))) is)

-- since the last moment it might have left what it may leave now
pub left_last : (system : MemSystem) (c : Folder) → left_of system (moment_of system) c
    → LeftBy (disk_of system) c
left_last system c had =
    let steps = system.steps in
    let P : List Step → Type 0 = λ l. LeftBy (disk_after l) c in
    let Q : ℕ → Type 0 = λ n. LeftBy (disk_after (take n steps)) c in
    let k : had.0 ≡ length steps = omega (arith, had.1, had.2) in
    subst P (take_all (length steps) steps (omega arith)) (subst Q k had.3)
