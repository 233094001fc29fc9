-- The folder that a system in memory starts with.
use Rattle.std.specs.Prelude.{◌≡◌, true}
use Rattle.dv_shelf.specs.declared.shelf.Name.{Name}
use Rattle.dv_shelf.specs.Folders.{Folder}
use Rattle.dv_system.specs.Disks.{Disk, Firm, files_of}
use Rattle.dv_disk.specs.States.{trusts}

-- the folder is durable and has these files, and no sync failed on them
pub record IsFound (files : Folder) (disk : Disk) : Type 0 where
  pub place : disk.place ≡ Firm
  pub trusted : (n : Name) → trusts (disk.named n) ≡ true
  pub reads : files_of disk ≡ files
