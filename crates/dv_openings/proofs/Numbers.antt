-- A folder has one number, and one mailbox.
use Rattle.std.proofs.Common.{◌≡◌, ℕ, sym, ◌∙◌, ap}
use Rattle.dv_model.specs.declared.types.Mailbox.{Mailbox}
use Rattle.dv_model.specs.declared.types.Mark.{Mark}
use Rattle.dv_shelf.specs.declared.shelf.Name.TheVariants as name
use Rattle.dv_shelf.specs.Folders.{Folder}
use Rattle.dv_logfile.specs.Scans.{Good, Scanned}
use Rattle.dv_logfile.proofs.OneScan.{scans_one}
use Rattle.dv_openings.specs.Numbers.{IsNamed}
use Rattle.dv_openings.specs.Openings as found
use Rattle.dv_openings.specs.Openings.{Finds, Found, IsFound}
use Rattle.dv_openings.proofs.FoundOnce.{found_one}

abbrev number_in : Scanned → ℕ
number_in (Good log) = log.header.indexid
number_in scanned = 0

-- its log has one number
pub named_one : (folder : Folder) (n k : ℕ) → IsNamed folder n → IsNamed folder k → n ≡ k
named_one folder n k one other =
    one.is
    ∙ ap number_in (scans_one (folder name.Log) (Good one.log) (Good other.log) one.scanned other.scanned)
    ∙ sym other.is

abbrev pub mailbox_in : Mailbox → Found → Mailbox
mailbox_in m (found.Finds other mark) = other
mailbox_in m f = m

-- it opens to one mailbox
pub mailbox_one : (folder : Folder) (m n : Mailbox) (k l : Mark) → IsFound folder (Finds m k) → IsFound folder (Finds n l) → m ≡ n
mailbox_one folder m n k l one other = ap (mailbox_in m) (found_one folder (Finds m k) (Finds n l) one other)
