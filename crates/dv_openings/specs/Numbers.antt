-- The number of a folder's mailbox, which its log's header has as indexid.
use Rattle.std.specs.Prelude.{◌≡◌, ℕ}
use Rattle.dv_shelf.specs.declared.shelf.Name.TheVariants as name
use Rattle.dv_shelf.specs.Folders.{Folder}
use Rattle.dv_logfile.specs.Scans.{Good, GoodLog, IsScanned}
use Rattle.dv_openings.specs.Openings.{Found, IsFound}

-- the folder's log is a good one of this number
pub record IsNamed (folder : Folder) (indexid : ℕ) : Type 0 where
  pub log : GoodLog
  pub scanned : IsScanned (folder name.Log) (Good log)
  pub is : indexid ≡ log.header.indexid

-- where the folder's log is a good one, it has this number
abbrev pub HasIndexid : Folder → ℕ → Type 0
HasIndexid folder number = (indexid : ℕ) → IsNamed folder indexid → indexid ≡ number

-- opening the folder finds this, of the mailbox of this number
pub record OpensAs (folder : Folder) (number : ℕ) (f : Found) : Type 0 where
  pub found : IsFound folder f
  pub named : HasIndexid folder number
