-- What replaces leave of a folder, of what a crash may leave, and of the count of failures.
use Rattle.std.specs.Prelude.{◌≡◌, ◌⊎◌, ℕ, ◌≤◌, List, Some, Result, Ok, Err, ⊤}
use Rattle.dv_model.specs.Counts.{Rose}
use Rattle.dv_shelf.specs.declared.shelf.Name.{Name}
use Rattle.dv_shelf.specs.declared.shelf.Name.TheVariants as name
use Rattle.dv_shelf.specs.Crashes.{Follows, LeavesOnly}
use Rattle.dv_shelf.specs.Folders.{Folder, with_file}
use Rattle.dv_logfile.specs.Gates.{FromOneOf}
use Rattle.dv_files.specs.declared.fault.ChainFault.{ChainFault}
use Rattle.dv_files.specs.declared.fault.ChainFault.TheVariants as fault
use Rattle.dv_files.specs.declared.fault.TurnEnd.{TurnEnd}
use Rattle.dv_files.specs.declared.fault.TurnEnd.TheVariants as end
use Rattle.dv_files.specs.declared.texts.Turn.{Turn}
use Rattle.dv_shelf.specs.Sees.{SeesFolder}

-- ---- one replace

-- the folder as it was, or with the text in that file
abbrev pub IsPut : Name → List ℕ → Folder → Folder → Type 0
IsPut name text old new = (new ≡ old) ⊎ (new ≡ with_file old name (Some text))

-- behind Ok the text is there; an error leaves either
abbrev pub Puts : Name → List ℕ → {T E : Type 0} → Result T E → Folder → Folder → Type 0
Puts name text (Ok x) old new = new ≡ with_file old name (Some text)
Puts name text (Err e) old new = IsPut name text old new

-- ---- the replaces of a rotation

-- the folder with the turn's snapshot
abbrev pub with_index : Turn → Folder → Folder
with_index turn folder = with_file folder name.Index (Some turn.index)

-- and with the old log beside it
abbrev pub with_old : Turn → Folder → Folder
with_old turn folder = with_file (with_index turn folder) name.Log2 (Some turn.old)

-- and with the new log
abbrev pub with_new : Turn → Folder → Folder
with_new turn folder = with_file (with_old turn folder) name.Log (Some turn.new)

-- none, one or both of the first two were made
abbrev pub IsBeforeLast : Turn → Folder → Folder → Type 0
IsBeforeLast turn old new =
    (new ≡ old) ⊎ (new ≡ with_index turn old) ⊎ (new ≡ with_old turn old)

-- or all three
abbrev pub IsTurning : Turn → Folder → Folder → Type 0
IsTurning turn old new = IsBeforeLast turn old new ⊎ (new ≡ with_new turn old)

-- behind Ok both; an error leaves none, one or both
abbrev pub PutsBoth : Turn → {T E : Type 0} → Result T E → Folder → Folder → Type 0
PutsBoth turn (Ok x) old new = new ≡ with_old turn old
PutsBoth turn (Err e) old new = IsBeforeLast turn old new

-- Behind Ok all three were made. Before leaves the log as it was; Last comes behind the first two,
-- and leaves the old log or the new one.
abbrev pub Turns : Turn → {T : Type 0} → Result T TurnEnd → Folder → Folder → Type 0
Turns turn (Ok x) old new = new ≡ with_new turn old
Turns turn (Err end.Before) old new = IsBeforeLast turn old new
Turns turn (Err end.Last) old new = IsPut name.Log turn.new (with_old turn old) new

-- ---- what a call leaves

-- Behind the call the files, and each folder that a crash may leave, are as `behind` says of one
-- from before; at any moment of it a crash leaves one as `at_any` says. It takes what a shelf
-- shows.
pub record Leaves {S : Type 0} (sees : SeesFolder S)
    (behind at_any : Folder → Folder → Type 0) (old new : S) : Type 0 where
  pub seen : behind (sees.files old) (sees.files new)
  pub crash : Follows behind (sees.may_leave old) (sees.may_leave new)
  pub since : LeavesOnly sees old new (FromOneOf (sees.may_leave old) at_any)

-- ---- faults

-- the disk failed only with this
abbrev pub OnDisk : {A : Type 0} → Result A ChainFault → (ℕ → Type 0) → Type 0
OnDisk (Err (fault.Disk faults)) P = P faults
OnDisk r P = ⊤

-- a fault of the disk comes only where a count rose, and tells the count; the count never falls
pub record HasFaultCause {A : Type 0} (before now : ℕ) (result : Result A ChainFault)
    : Type 0 where
  pub later : before ≤ now
  pub rose : OnDisk result (λ faults. (faults ≡ now) × Rose before now)
