-- Where open files stand.
use Rattle.std.specs.Prelude.{Bool, true, false, cond, Option, Some, None}
use Rattle.dv_shelf.specs.declared.shelf.Name.{Name}
use Rattle.dv_shelf.specs.declared.shelf.Name.TheVariants.{Index}
use Rattle.dv_shelf.specs.Folders.{same_name}
use Rattle.dv_system.specs.declared.system.Entry.{Entry}
use Rattle.dv_system.specs.declared.system.Entry.TheVariants.{File, Temporary}
use Rattle.dv_memory_system.specs.declared.step.Change.{Change}
use Rattle.dv_memory_system.specs.declared.step.Change.TheVariants.{Found, Create, Write, Sync, Unlink}
use Rattle.dv_memory_system.specs.declared.step.Deed.{Deed}
use Rattle.dv_memory_system.specs.declared.step.Deed.TheVariants as deed
use Rattle.dv_memory_system.specs.declared.step.Step.{Step}

-- two entries are one
abbrev pub same_entry : Entry → Entry → Bool
same_entry (File a) (File b) = same_name a b
same_entry (File a) Temporary = false
same_entry Temporary (File b) = false
same_entry Temporary Temporary = true

-- the file of this name stands nowhere any more, and one at another entry stands still
abbrev pub unless_at : Entry → Entry → Option Entry
unless_at gone entry = cond (same_entry gone entry) None (Some entry)

-- the temporary file takes a name, in place of what stood there
abbrev pub renamed_to : Name → Entry → Option Entry
renamed_to name (File n) = unless_at (File name) (File n)
renamed_to name Temporary = Some (File name)

-- where a file stands behind a change of a file
abbrev pub changed_to : Entry → Change → Entry → Option Entry
changed_to other Found entry = Some entry
changed_to other (Create is_seen) entry = Some entry
changed_to other (Write at stuck) entry = Some entry
changed_to other (Sync is_done) entry = Some entry
changed_to other (Unlink true) entry = unless_at other entry
changed_to other (Unlink false) entry = Some entry

-- where a file stands behind a call
abbrev pub moved_to : Deed → Entry → Option Entry
moved_to deed.FoundFolder entry = Some entry
moved_to deed.MakeFolder entry = Some entry
moved_to (deed.SyncParent is_done) entry = Some entry
moved_to (deed.SyncFolder is_done) entry = Some entry
moved_to (deed.Rename name true) entry = renamed_to name entry
moved_to (deed.Rename name false) entry = Some entry
moved_to (deed.File other change) entry = changed_to other change entry

abbrev pub place_then : Option Entry → Step → Option Entry
place_then None step = None
place_then (Some entry) step = moved_to step.deed entry

-- the name of an entry, or some name
abbrev pub entry_name : Entry → Name
entry_name (File name) = name
entry_name Temporary = Index

-- the name of the file that a call is on, or some name
abbrev pub name_of : Deed → Name
name_of deed.FoundFolder = Index
name_of deed.MakeFolder = Index
name_of (deed.SyncParent is_done) = Index
name_of (deed.SyncFolder is_done) = Index
name_of (deed.Rename name is_seen) = name
name_of (deed.File entry change) = entry_name entry
