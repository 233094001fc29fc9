-- How the entries are listed.
use Rattle.std.specs.Prelude.{Bool, true, false, not, ◌&&◌, cond, List, [], ◌∷◌, ◌++◌, is_some}
use Rattle.std.specs.List.{list_any}
use Rattle.dv_shelf.specs.Folders.{is_of_mailbox}
use Rattle.dv_system.specs.declared.system.Entry.{Entry}
use Rattle.dv_system.specs.declared.system.Entry.TheVariants.{File, Temporary}
use Rattle.dv_system.specs.Entries.{read_at}
use Rattle.dv_system.specs.Disks.{Disk, at_entry}
use Rattle.dv_memory_system.specs.declared.step.Deed.{Deed}
use Rattle.dv_memory_system.specs.declared.step.Deed.TheVariants as deed
use Rattle.dv_memory_system.specs.Places.{same_entry}

-- an entry stands in a list
abbrev pub has_entry : List Entry → Entry → Bool
has_entry entries entry = list_any (λ e. same_entry e entry) entries

-- one entry more, if a file stands there and the list hasn't it
abbrev pub entry_then : Disk → List Entry → Entry → List Entry
entry_then disk entries entry =
    cond (is_some (read_at (at_entry disk entry)) && not (has_entry entries entry))
    (entries ++ entry ∷ []) entries

-- a file of a mailbox stands there
abbrev pub is_mailbox_entry : Entry → Bool
is_mailbox_entry (File name) = is_of_mailbox name
is_mailbox_entry Temporary = false

-- the folder is there behind this call
abbrev pub makes_folder : Deed → Bool
makes_folder deed.FoundFolder = true
makes_folder deed.MakeFolder = true
makes_folder (deed.SyncParent is_done) = false
makes_folder (deed.SyncFolder is_done) = false
makes_folder (deed.Rename name is_seen) = false
makes_folder (deed.File there change) = false
