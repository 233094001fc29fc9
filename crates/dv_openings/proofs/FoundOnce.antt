-- A folder is found in one way.
use Rattle.std.proofs.Common.{◌≡◌, List, ℕ, Option, Some, None, refl, sym, ◌∙◌, ap, subst}
use Rattle.dv_shelf.specs.declared.shelf.Name.TheVariants as name
use Rattle.dv_shelf.specs.Folders.{Folder}
use Rattle.dv_logfile.proofs.OneScan.{scans_one}
use Rattle.dv_formats.specs.Snapshots.{IsSnapshot}
use Rattle.dv_formats.proofs.Wholes.{snapshot_is_one}
use Rattle.dv_logfile.specs.Scans.{Scanned, Missing, BadHeader, BadSpot, Good, IsScanned}
use Rattle.dv_openings.specs.Openings.{Snapshot, IsIndex, Found, IsFound, IfGood, found_in}

-- ---- the index

snapshots_one : (s t : Snapshot) (b : List ℕ) → IsSnapshot s.version s.mailbox s.indexid s.mark b
    → IsSnapshot t.version t.mailbox t.indexid t.mark b → s ≡ t
snapshots_one s t b one other =
    let same = snapshot_is_one s.version t.version s.mailbox t.mailbox s.indexid t.indexid s.mark t.mark b one other in
    λ i. record { version = same.0 i; mailbox = same.1 i; indexid = same.2 i; mark = same.3 i }

indexes_one : (file : Option (List ℕ)) (s t : Option Snapshot) → IsIndex file s → IsIndex file t
    → s ≡ t
indexes_one None s t one other = one ∙ sym other
indexes_one (Some b) None None one other = refl
indexes_one (Some b) None (Some t) one other = absurd (one t other)
indexes_one (Some b) (Some s) None one other = absurd (other s one)
indexes_one (Some b) (Some s) (Some t) one other = ap Some (snapshots_one s t b one other)

-- ---- the folder

-- beside one log there is one answer
beside_one : (log2 file : Option (List ℕ)) (log rotated other_rotated : Scanned)
    (index other_index : Option Snapshot)
    → IfGood log (IsScanned log2 rotated) → IfGood log (IsScanned log2 other_rotated)
    → IfGood log (IsIndex file index) → IfGood log (IsIndex file other_index)
    → found_in log rotated index ≡ found_in log other_rotated other_index
beside_one log2 file Missing rotated other_rotated index other_index p q r s = refl
beside_one log2 file BadHeader rotated other_rotated index other_index p q r s = refl
beside_one log2 file (BadSpot place) rotated other_rotated index other_index p q r s = refl
beside_one log2 file (Good log) rotated other_rotated index other_index p q r s =
    ap (λ x. found_in (Good log) x index) (scans_one log2 rotated other_rotated p q) ∙ ap (found_in (Good log) other_rotated) (indexes_one file index other_index r s)

pub found_one : (folder : Folder) (f g : Found) → IsFound folder f → IsFound folder g → f ≡ g
found_one folder f g one other =
    let same : one.log ≡ other.log = scans_one (folder name.Log) one.log other.log one.log_file other.log_file in
    one.is
    ∙ beside_one (folder name.Log2) (folder name.Index) one.log one.rotated other.rotated one.index other.index
    one.rotated_file (subst (λ log. IfGood log (IsScanned (folder name.Log2) other.rotated)) (sym same) other.rotated_file)
    one.index_file (subst (λ log. IfGood log (IsIndex (folder name.Index) other.index)) (sym same) other.index_file)
    ∙ ap (λ log. found_in log other.rotated other.index) same
    ∙ sym other.is
