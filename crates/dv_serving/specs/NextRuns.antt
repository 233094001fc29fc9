-- From which folders a run may begin, and what is left of them for a next one. The record takes
-- what a shelf shows.
use Rattle.std.specs.Prelude.{ℕ}
use Rattle.dv_model.specs.declared.types.Mailbox.{Mailbox}
use Rattle.dv_model.specs.declared.types.Mark.{Mark}
use Rattle.dv_shelf.specs.Crashes.{LeavesOnly}
use Rattle.dv_shelf.specs.Folders.{Folder}
use Rattle.dv_shelf.specs.Sees.{SeesFolder}
use Rattle.dv_openings.specs.Numbers.{IsNamed}
use Rattle.dv_openings.specs.Openings.{Finds, IsFound}
use Rattle.dv_openings.specs.TrueCaches.{HasTrueCache}

-- where a mailbox is found, the cache file is true of it
abbrev pub IsTrueFolder : Folder → Type 0
IsTrueFolder folder = (indexid : ℕ) (m : Mailbox) (mark : Mark) → IsNamed folder indexid
    → IsFound folder (Finds m mark) → HasTrueCache folder indexid m

-- so it is in the files as they are read, in each folder that a crash now may leave, and in each
-- that one left at any moment since
pub record LeavesTrue {S : Type 0} (sees : SeesFolder S) (old new : S) : Type 0 where
  pub seen : IsTrueFolder (sees.files new)
  pub after : (c : Folder) → sees.may_leave new c → IsTrueFolder c
  pub crash : LeavesOnly sees old new IsTrueFolder
