-- Sample images of a system in memory, for tests.
use Rattle.std.specs.Prelude.{ℕ, Bool, true, false, cond, List, [], ◌∷◌, ◌++◌, All}
use Rattle.dv_shelf.specs.declared.shelf.Name.{Name}
use Rattle.dv_shelf.specs.Folders.{folder_of, has_name}
use Rattle.dv_system.specs.Disks.{Disk, LeftBy}
use Rattle.dv_memory_system.specs.declared.step.Deed.{Deed}
use Rattle.dv_memory_system.specs.declared.step.Deed.TheVariants as deed

-- each of them is a folder that a crash may leave
abbrev pub AreImages : Disk → List (List (Name × List ℕ)) → Type 0
AreImages disk images = All (λ image. LeftBy disk (folder_of image)) images

-- so are more of them
abbrev pub AddsImages : Disk → List (List (Name × List ℕ)) → List (List (Name × List ℕ)) → Type 0
AddsImages disk old new = AreImages disk old → AreImages disk new

-- a name more, unless the list has it
abbrev pub name_then : List Name → Name → List Name
name_then names name = cond (has_name names name) names (names ++ name ∷ [])

-- a crash leaves the folder itself behind this call
abbrev pub firms : Deed → Bool
firms deed.FoundFolder = true
firms deed.MakeFolder = false
firms (deed.SyncParent is_done) = is_done
firms (deed.SyncFolder is_done) = false
firms (deed.Rename name is_seen) = false
firms (deed.File entry change) = false
