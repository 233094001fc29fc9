-- A settled folder stays settled by calls that leave one folder behind Ok, and fail only where a
-- fault was counted.
use Rattle.std.proofs.Common.{◌≡◌, ℕ, List, Some, Option, Result, Ok, Err, ◌∙◌, sym}
use Rattle.dv_shelf.specs.declared.shelf.Name.{Name}
use Rattle.dv_shelf.specs.Causes.{HasCause}
use Rattle.dv_shelf.specs.Folders.{Folder, with_file}
use Rattle.dv_shelf.specs.Sees.{SeesFolder}
use Rattle.dv_logfile.specs.Settling.{StaysSettled}
use Rattle.dv_logfile.proofs.Settling.{rose_settled, stepped_settled}
use Rattle.dv_files.specs.declared.texts.Turn.{Turn}
use Rattle.dv_files.specs.Leavings.{Leaves, Puts, with_new}
use Rattle.dv_files.specs.Writing.{Sweeps, swept}
use Rattle.dv_writing.specs.Renewals.{Renews, renewed}
use Rattle.dv_writing.specs.Turning.{TurnsFiles}

-- the folder is changed in one way
changed_settled : {S : Type 0} (sees : SeesFolder S) (old new : S) {at_any : Folder → Folder → Type 0} (change : Folder → Folder) → Leaves sees (λ d c. c ≡ change d) at_any old new → StaysSettled sees old new
changed_settled sees old new change leaves = stepped_settled sees old new (λ d c. c ≡ change d) leaves.crash (λ c is. is ∙ sym leaves.seen)

module _ {S : Type 0} (sees : SeesFolder S) (old new : S) {T E : Type 0} {at_any : Folder → Folder → Type 0} where
  -- a file is replaced
  pub put_settled : (name : Name) (text : List ℕ) (result : Result T E) → HasCause (sees.fault_count old) (sees.fault_count new) result → Leaves sees (Puts name text result) at_any old new → StaysSettled sees old new
  put_settled name text (Ok x) cause leaves = changed_settled sees old new (λ folder. with_file folder name (Some text)) leaves
  put_settled name text (Err e) cause leaves = rose_settled sees old new cause.rose

  -- message files are removed
  pub swept_settled : (uids : List ℕ) (result : Result T E) → HasCause (sees.fault_count old) (sees.fault_count new) result → Leaves sees (Sweeps uids result) at_any old new → StaysSettled sees old new
  swept_settled uids (Ok x) cause leaves = changed_settled sees old new (swept uids) leaves
  swept_settled uids (Err e) cause leaves = rose_settled sees old new cause.rose

  -- index and cache file are replaced
  pub renewed_settled : (index cache : List ℕ) (result : Result T E) → HasCause (sees.fault_count old) (sees.fault_count new) result → Leaves sees (Renews index cache result) at_any old new → StaysSettled sees old new
  renewed_settled index cache (Ok x) cause leaves = changed_settled sees old new (renewed index cache) leaves
  renewed_settled index cache (Err e) cause leaves = rose_settled sees old new cause.rose

  -- the log is rotated
  pub turned_settled : (turn : Turn) (left : Option Turn) (result : Result T E) → HasCause (sees.fault_count old) (sees.fault_count new) result → Leaves sees (TurnsFiles turn left result) at_any old new → StaysSettled sees old new
  turned_settled turn left (Ok x) cause leaves = changed_settled sees old new (with_new turn) leaves
  turned_settled turn left (Err e) cause leaves = rose_settled sees old new cause.rose
