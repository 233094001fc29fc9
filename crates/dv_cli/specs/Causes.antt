-- What each end and each status of a run comes from, and how often the clock is read.
use Rattle.std.specs.Prelude.{◌≡◌, ◌⊎◌, ◌≤◌, ◌+◌, ◌*◌, ℕ, List, length, Option, Some, None, Result, Ok, Err, ⊤}
use Rattle.dv_model.specs.declared.types.OpenFault.TheVariants as fault
use Rattle.dv_model.specs.Counts.{Rose}
use Rattle.dv_model.specs.Journals.{Log}
use Rattle.dv_shelf.specs.Folders.{Folder, IsNew}
use Rattle.dv_formats.specs.Parsing.{ScriptFault}
use Rattle.dv_formats.specs.Scripts.{NamedLine}
use Rattle.dv_script.specs.Sources.{ScriptFails}
use Rattle.dv_openings.specs.Openings.{IsFound}
use Rattle.dv_chain.specs.Openings.{FaultFound}
use Rattle.dv_serving.specs.Readings.{TakesUpTo}
use Rattle.dv_beginning.specs.Causes.{HasFault, IsFault, TakesForOpening}
use Rattle.dv_beginning.specs.Starts.{Starts}
use Rattle.dv_cli.specs.Tasks.{Answers, HasScript, Opens}
use Rattle.dv_qresync.specs.declared.types.Old.{Old}
use Rattle.dv_cli.specs.declared.words.Task.{Task}
use Rattle.dv_cli.specs.declared.words.Task.TheVariants as task
use Rattle.dv_cli.specs.declared.ending.End.{End}
use Rattle.dv_cli.specs.declared.ending.End.TheVariants as end

-- ---- the clock

-- once for a mailbox that is made, and twice at most for each line
abbrev pub most_readings : ℕ → ℕ
most_readings lines = 1 + 2 * lines

-- so often over a folder
abbrev pub TakesForRun : ℕ → (ℕ → ℕ) → (ℕ → ℕ) → End → Type 0
TakesForRun lines old new (end.Unopened f) = TakesForOpening old new {A = Unit {0}} (Err f)
TakesForRun lines old new e = TakesUpTo (most_readings lines) old new

-- so often over a storage folder: once for a storage that is made, and by its calls
abbrev pub TakesForCalls : (ℕ → ℕ) → (ℕ → ℕ) → End → Type 0
TakesForCalls old new (end.Unopened f) = TakesForOpening old new {A = Unit {0}} (Err f)
TakesForCalls old new e = ⊤

-- ---- the ends

-- lines that are served end so
abbrev pub EndsServing : End → Type 0
EndsServing (end.Answered mark groups loaded) = ⊤
EndsServing end.NoMemory = ⊤
EndsServing end.Sink = ⊤
EndsServing e = ⊥

-- the count of the folder's faults never falls, nor that of the output's; a disk's fault and a
-- failed output come only where theirs rose
abbrev pub FolderCause : ℕ → ℕ → ℕ → ℕ → End → Type 0
FolderCause shelf shelf_now out out_now (end.Answered mark groups loaded) = ⊤
FolderCause shelf shelf_now out out_now (end.Unopened (fault.Disk faults)) =
    Rose shelf shelf_now × (faults ≡ shelf_now)
FolderCause shelf shelf_now out out_now (end.Unopened f) = ⊤
FolderCause shelf shelf_now out out_now end.NoMemory = ⊤
FolderCause shelf shelf_now out out_now end.Sink = Rose out out_now
FolderCause shelf shelf_now out out_now e = ⊥

pub record EndCause (shelf shelf_now out out_now : ℕ) (e : End) : Type 0 where
  pub later : (shelf ≤ shelf_now) × (out ≤ out_now)
  pub cause : FolderCause shelf shelf_now out out_now e

-- What the folder holds is told: a fault that is found, where it has a file of a mailbox; all lines
-- are answered only where there is none.
abbrev pub TellsFaults : Folder → End → Type 0
TellsFaults folder (end.Unopened f) =
    IsFault f → FaultFound f (IsFound folder) × (IsNew folder → ⊥)
TellsFaults folder (end.Answered mark groups loaded) = HasFault folder → ⊥
TellsFaults folder e = ⊤

-- ---- before the folder is touched

-- a script that isn't served: its fault is told, or the source failed, or memory ran out
abbrev pub ScriptEnds : End → Result (List NamedLine) ScriptFault → Type 0
ScriptEnds (end.Script fault) read = ScriptFails fault read
ScriptEnds (end.Source faults) read = ⊤
ScriptEnds end.NoMemory read = ⊤
ScriptEnds e read = ⊥

-- the same without what the script says
abbrev pub IsReadEnd : End → ℕ → ℕ → Type 0
IsReadEnd end.NoMemory before now = ⊤
IsReadEnd (end.Script fault) before now = ⊤
IsReadEnd (end.Source faults) before now = Rose before now × (faults ≡ now)
IsReadEnd e before now = ⊥

-- neither the folder nor the clock is touched
pub record IsUntouched {S C : Type 0} (old new : S) (before now : C) : Type 0 where
  pub shelf : new ≡ old
  pub clock : now ≡ before

-- ---- a run before its last line

-- how often the folder, the script's source and the output had failed before the run
pub record Counts : Type 0 where
  pub shelf : ℕ
  pub source : ℕ
  pub output : ℕ

-- the three counts
abbrev pub counts_of : ℕ → ℕ → ℕ → Counts
counts_of shelf source output = record { shelf = shelf; source = source; output = output }

-- each end has its cause: a failure of the disk or of the source, whose count is told, or one of
-- the output
abbrev pub ComesFrom : Counts → Counts → End → Type 0
ComesFrom before now (end.Unopened (fault.Disk faults)) =
    Rose before.shelf now.shelf × (faults ≡ now.shelf)
ComesFrom before now (end.Source faults) =
    Rose before.source now.source × (faults ≡ now.source)
ComesFrom before now end.Sink = Rose before.output now.output
ComesFrom before now e = ⊤

-- no count falls, and the end has its cause
pub record HasRunCause (before now : Counts) (e : End) : Type 0 where
  pub later : (before.shelf ≤ now.shelf) × (before.source ≤ now.source)
      × (before.output ≤ now.output)
  pub cause : ComesFrom before now e

-- what the script says is told: its fault, or lines, which alone are served
abbrev pub TellsScript : Result (List NamedLine) ScriptFault → End → Type 0
TellsScript read (end.Script fault) = ScriptFails fault read
TellsScript read (end.Source faults) = ⊤
TellsScript read end.NoMemory = ⊤
TellsScript read end.Usage = ⊥
TellsScript read e = (lines : List NamedLine) × (read ≡ Ok lines)

-- a script that is refused ends a run so, unless it can't be read
abbrev pub EndsRefused : ScriptFault → End → Type 0
EndsRefused fault (end.Script e) = ScriptFails {Y = List NamedLine} e (Err fault)
EndsRefused fault (end.Source faults) = ⊤
EndsRefused fault end.NoMemory = ⊤
EndsRefused fault e = ⊥

-- where the clock isn't touched: wrong words, a script that isn't served, a fault in the folder; it
-- is read at most once where the disk fails
abbrev pub TakesByEnd : (ℕ → ℕ) → (ℕ → ℕ) → End → Type 0
TakesByEnd old new end.Usage = new ≡ old
TakesByEnd old new (end.Script fault) = new ≡ old
TakesByEnd old new (end.Source faults) = new ≡ old
TakesByEnd old new (end.Unopened f) = TakesForOpening old new {A = Unit {0}} (Err f)
TakesByEnd old new e = ⊤

-- So often a task read the clock before the last line: as its lines need, or a client, and by the
-- end.
pub record IsRead (t : Option Task) (told : Type 0) (read : Result (List NamedLine) ScriptFault)
    (e : End) (old new : ℕ → ℕ) : Type 0 where
  pub lines : (ls : List NamedLine) → Answers t told read ls
      → TakesUpTo (most_readings (length ls)) old new
  pub client : (c : Old) → t ≡ Some (task.Resync c) → TakesUpTo 1 old new
  pub ends : TakesByEnd old new e

-- ---- the statuses

-- The clock isn't read where words or folder are refused, or the script is or can't be read; it is
-- read at most once where the disk fails before the first line.
pub record TakesByStatus (status : ℕ) (old new : ℕ → ℕ) : Type 0 where
  pub usage : status ≡ 1 → new ≡ old
  pub disk : status ≡ 2 → TakesUpTo 1 old new
  pub found : status ≡ 3 → new ≡ old
  pub script : status ≡ 5 → new ≡ old
  pub source : status ≡ 6 → new ≡ old

-- So it is of a run of a task, which reads it at most so often as its lines need, or as a client.
pub record IsTimed (t : Option Task) (told : Type 0) (read : Result (List NamedLine) ScriptFault)
    (status : ℕ) (old new : ℕ → ℕ) : Type 0 where
  pub lines : (ls : List NamedLine) → Answers t told read ls
      → TakesUpTo (most_readings (length ls)) old new
  pub client : (c : Old) → t ≡ Some (task.Resync c) → TakesUpTo 1 old new
  pub statuses : TakesByStatus status old new

-- one of them rose
abbrev pub AnyRose : Counts → Counts → Type 0
AnyRose before now = Rose before.shelf now.shelf ⊎ Rose before.source now.source
    ⊎ Rose before.output now.output

-- Each status comes only from its cause: words that ask for nothing, a failure of the disk, a fault
-- that is found in a folder that is to be opened, a script that is refused where one is read, and
-- failures of the source and of the output.
pub record HasCauses (status : ℕ) (t : Option Task) (before now : Counts) (finds : Type 0)
    (refuses : Type 0) : Type 0 where
  pub small : status ≤ 7
  pub usage : status ≡ 1 → t ≡ None
  pub disk : status ≡ 2 → Rose before.shelf now.shelf
  pub found : status ≡ 3 → Opens t × finds
  pub script : status ≡ 5 → HasScript t × refuses
  pub source : status ≡ 6 → HasScript t × Rose before.source now.source
  pub output : status ≡ 7 → Rose before.output now.output

-- the status is this one, unless memory ran out or something outside failed
abbrev pub IsOr : ℕ → ℕ → Counts → Counts → Type 0
IsOr wanted status before now = (status ≡ wanted) ⊎ (status ≡ 4) ⊎ AnyRose before now

-- The status says what the folder holds, unless memory ran out or something outside failed: a fault
-- that is found, or a mailbox that is found or made.
pub record IsByFolder (clock : ℕ → ℕ) (folder : Folder) (status : ℕ) (before now : Counts)
    : Type 0 where
  pub fault : HasFault folder → IsOr 3 status before now
  pub served : (start : Log) (used : ℕ) → Starts clock folder start used
      → IsOr 0 status before now
