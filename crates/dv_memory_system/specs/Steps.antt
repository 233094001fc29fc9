-- A folder in memory, by what calls did to it.
use Rattle.std.specs.Prelude.{◌≡◌, ◌⊎◌, ℕ, ◌≤◌, Bool, true, false, List, [], ◌∷◌, ◌++◌, length, take, fold, Some}
use Rattle.dv_shelf.specs.declared.shelf.Name.{Name}
use Rattle.dv_shelf.specs.Disks.{Version, Gone, settled_version}
use Rattle.dv_system.specs.declared.system.Entry.{Entry}
use Rattle.dv_system.specs.declared.system.Entry.TheVariants as entry
use Rattle.dv_system.specs.Entries.{At, absent, empty_file, put_at, hidden_at, written_at, synced_at, doubted_at, swept_at, unsure_at}
use Rattle.dv_system.specs.Disks.{Disk, Place, Missing, Firm, changed, changed_names, renamed, with_place, made_place, firm_place, doubted_place}
use Rattle.dv_memory_system.specs.declared.step.Change.{Change}
use Rattle.dv_memory_system.specs.declared.step.Change.TheVariants.{Found, Create, Write, Sync, Unlink}
use Rattle.dv_memory_system.specs.declared.step.Deed.{Deed}
use Rattle.dv_memory_system.specs.declared.step.Deed.TheVariants as deed
use Rattle.dv_memory_system.specs.declared.step.Step.{Step}

-- a durable file was there
abbrev pub found_at : List ℕ → At → At
found_at bytes at = record {
  first = settled_version (Some bytes);
  others = [];
  is_doubted = false;
  is_unsure = false;
}

-- the folder was there, and durable
abbrev pub found_place : Place → Place
found_place place = Firm

-- another file stands there, or none; reads see it or not
abbrev pub replaced_at : Bool → Version → At → At
replaced_at true version at = put_at version false at
replaced_at false version at = hidden_at version at

-- what a call made of an entry
abbrev pub change_at : Change → List ℕ → At → At
change_at Found bytes at = found_at bytes at
change_at (Create is_seen) bytes at = replaced_at is_seen empty_file at
change_at (Write place stuck) bytes at = written_at place (length bytes) (take stuck bytes) at
change_at (Sync true) bytes at = synced_at at
change_at (Sync false) bytes at = doubted_at at
change_at (Unlink is_seen) bytes at = replaced_at is_seen Gone at

-- a sync of the folder answered Ok, or failed
abbrev pub folder_synced_at : Bool → At → At
folder_synced_at true at = swept_at at
folder_synced_at false at = unsure_at at

-- the temporary file took a name, and reads see that or not
abbrev pub renamed_so : Bool → Disk → Name → Disk
renamed_so true disk name = renamed disk name
renamed_so false disk name = changed (hidden_at disk.temporary.first) disk (entry.File name)

-- what a call made of the folder
abbrev pub deed_then : Disk → List ℕ → Deed → Disk
deed_then disk bytes deed.FoundFolder = with_place found_place disk
deed_then disk bytes deed.MakeFolder = with_place made_place disk
deed_then disk bytes (deed.SyncParent true) = with_place firm_place disk
deed_then disk bytes (deed.SyncParent false) = with_place doubted_place disk
deed_then disk bytes (deed.SyncFolder true) = changed_names swept_at disk
deed_then disk bytes (deed.SyncFolder false) = changed_names unsure_at disk
deed_then disk bytes (deed.Rename name is_seen) = renamed_so is_seen disk name
deed_then disk bytes (deed.File entry change) = changed (change_at change bytes) disk entry

abbrev pub step_then : Disk → Step → Disk
step_then disk step = deed_then disk step.bytes step.deed

-- no folder, and no file
abbrev pub new_disk : Disk
new_disk = record { place = Missing; named = λ n. absent; temporary = absent }

-- the folder behind some calls
abbrev pub disk_after : List Step → Disk
disk_after steps = fold step_then new_disk steps

-- one call more
abbrev pub with_step : List Step → Deed → List ℕ → List Step
with_step steps deed bytes = steps ++ record { deed = deed; bytes = bytes } ∷ []

-- a call that failed did one of two things, or nothing
abbrev pub IsTried : Deed → Deed → List ℕ → List Step → List Step → Type 0
IsTried hidden shown bytes old new =
    (new ≡ old) ⊎ ((new ≡ with_step old shown bytes) ⊎ (new ≡ with_step old hidden bytes))

-- a sync of a file answered Ok, or failed
abbrev pub synced_so : Entry → Bool → Deed
synced_so entry is_done = deed.File entry (Sync is_done)

-- a file was removed, and reads see that or not
abbrev pub unlinked_so : Entry → Bool → Deed
unlinked_so there is_seen = deed.File there (Unlink is_seen)

-- a write that failed wrote some of the bytes from the front, or changed nothing
abbrev pub IsWrittenPart : ℕ → List ℕ → Entry → Disk → Disk → Type 0
IsWrittenPart at bytes entry old new =
    (new ≡ old) ⊎ ((k : ℕ) × (k ≤ length bytes)
    × (new ≡ changed (written_at at (length bytes) (take k bytes)) old entry))
