-- A client with an older state hears of a folder. The records take what a shelf shows.
use Rattle.std.specs.Prelude.{◌≡◌, ◌≢◌, ◌≤◌, ℕ, [], Result, Ok, Err, ⊤}
use Rattle.dv_model.specs.declared.types.Mark.{Mark}
use Rattle.dv_model.specs.declared.types.OpenFault.{OpenFault}
use Rattle.dv_model.specs.declared.types.OpenFault.TheVariants as fault
use Rattle.dv_model.specs.Counts.{Rose}
use Rattle.dv_model.specs.Journals.{IsSound, Log}
use Rattle.dv_shelf.specs.declared.shelf.Name.{Name}
use Rattle.dv_shelf.specs.declared.shelf.Name.TheVariants as name
use Rattle.dv_shelf.specs.Clocks.{behind}
use Rattle.dv_shelf.specs.Crashes.{IsSettled, LeavesOnly}
use Rattle.dv_shelf.specs.Folders.{Folder}
use Rattle.dv_shelf.specs.Sees.{SeesFolder}
use Rattle.dv_writing.specs.Keeping.{Gives}
use Rattle.dv_serving.specs.NextRuns.{LeavesTrue}
use Rattle.dv_serving.specs.Outputs.{Output}
use Rattle.dv_beginning.specs.Leaving.{LeavesUnopened, MayLeave}
use Rattle.dv_beginning.specs.Starts.{Starts}
use Rattle.dv_qresync.specs.declared.types.Old.{Old}
use Rattle.dv_qresync.specs.Answers.{resynced}
use Rattle.dv_qresync.specs.Texts.{answers_text}
use Rattle.dv_catching.specs.declared.catching.CatchEnd.{CatchEnd}
use Rattle.dv_catching.specs.declared.catching.CatchEnd.TheVariants as end
use Rattle.dv_catching.specs.Texts.{WritesText}

-- ---- the ends

-- so it ends over a mailbox that was opened, whose log ends at this place
abbrev pub EndsBehind : Mark → CatchEnd → Type 0
EndsBehind place (end.Answered mark) = mark ≡ place
EndsBehind place (end.Unopened f) = ⊥
EndsBehind place e = ⊤

-- the fault of opening, or none
abbrev pub opened : CatchEnd → Result (Unit {0}) OpenFault
opened (end.Unopened f) = Err f
opened e = Ok tt

-- a failure of the disk, whose count is told, or of the output
abbrev pub CatchCause : ℕ → ℕ → ℕ → ℕ → CatchEnd → Type 0
CatchCause shelf shelf_now out out_now (end.Unopened (fault.Disk faults)) =
    Rose shelf shelf_now × (faults ≡ shelf_now)
CatchCause shelf shelf_now out out_now end.Sink = Rose out out_now
CatchCause shelf shelf_now out out_now e = ⊤

-- the counts of failures never fall, and each end has its cause
pub record HasCatchCause (shelf shelf_now out out_now : ℕ) (e : CatchEnd) : Type 0 where
  pub later : (shelf ≤ shelf_now) × (out ≤ out_now)
  pub cause : CatchCause shelf shelf_now out out_now e

-- ---- a mailbox that was found or made

-- The answers are those of its mailbox, and nothing is written but what opening writes: the folder
-- gives that mailbox, with its messages and a true cache, and is settled, so that a next run may
-- begin from it; a crash leaves it so, or, before a mailbox was made, the folder as it was.
pub record Catches {S : Type 0} (sees : SeesFolder S) (clock : ℕ → ℕ) (client : Old)
    (e : CatchEnd) (out : Output) (old new : S) : Type 0 where
  pub start : Log
  pub used : ℕ
  pub starts : Starts clock (sees.files old) start used
  pub sound : IsSound start
  pub ends : EndsBehind start.start_mark e
  pub output : out.told
      → WritesText e (answers_text (resynced start.start client)) out.taken out.taken_now
  pub others : (n : Name) → n ≢ name.Log → sees.files new n ≡ sees.files old n
  pub folder : Gives start start.start start.start_mark (sees.files new)
  pub after : (c : Folder) → sees.may_leave new c → Gives start start.start start.start_mark c
  pub crash : LeavesOnly sees old new (MayLeave (behind clock used) start [] (sees.files old))
  pub next : LeavesTrue sees old new
  pub settled : IsSettled sees new

-- ---- both

-- the client is answered, or the folder isn't opened and nothing is written
abbrev pub CatchesOver : {S : Type 0} → SeesFolder S → (ℕ → ℕ) → Old → CatchEnd → Output → S → S
    → Type 0
CatchesOver sees clock client (end.Unopened f) out old new =
    (out.told → out.taken_now ≡ out.taken) × LeavesUnopened sees clock f old new
CatchesOver sees clock client e out old new = Catches sees clock client e out old new
