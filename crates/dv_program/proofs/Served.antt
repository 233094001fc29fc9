-- How a run by sessions in threads ends, by how their serving does.
use Rattle.std.proofs.Common.{ℕ, ◌≤◌, List, refl}
use Rattle.dv_shelf.specs.Folders.{Folder}
use Rattle.dv_shelf.specs.Sees.{SeesFolder}
use Rattle.dv_formats.specs.Scripts.{NamedLine}
use Rattle.dv_serving.specs.Faults.{Faults}
use Rattle.dv_serving.specs.Outputs.{Output}
use Rattle.dv_beginning.specs.Causes.{HasFault}
use Rattle.dv_threads.specs.Jobs.{IsCaused}
use Rattle.dv_threads.specs.Serves.{ServesThreads}
use Rattle.dv_threads.specs.declared.ending.ThreadsEnd.{ThreadsEnd}
use Rattle.dv_threads.specs.declared.ending.ThreadsEnd.TheVariants as ending
use Rattle.dv_cli.specs.Causes.{EndCause, TakesByEnd, TellsFaults}
use Rattle.dv_cli.specs.Spans.{Times}
use Rattle.dv_program.specs.Serving.{RunsBy, end_by}

-- ---- what was answered

pub serves_by : {S : Type 0} (sees : SeesFolder S) (times : Times) (faults : Faults) (lines : List NamedLine) (out : Output) (old new : S) (how : ThreadsEnd)
    → ServesThreads sees times.clock times.told faults lines how out old new
    → RunsBy sees times faults lines (end_by how) out old new
serves_by sees times faults lines out old new (ending.Answered mark groups) serves = record { how = ending.Answered mark groups; is = refl; serves = serves }
serves_by sees times faults lines out old new ending.NoMemory serves = record { how = ending.NoMemory; is = refl; serves = serves }
serves_by sees times faults lines out old new (ending.Sink count) serves = record { how = ending.Sink count; is = refl; serves = serves }

-- ---- what an end comes from

pub serving_cause : (shelf shelf_now out out_now : ℕ) (how : ThreadsEnd) → (shelf ≤ shelf_now) × (out ≤ out_now)
    → IsCaused out out_now how → EndCause shelf shelf_now out out_now (end_by how)
serving_cause shelf shelf_now out out_now (ending.Answered mark groups) later cause = record { later = later; cause = tt }
serving_cause shelf shelf_now out out_now ending.NoMemory later cause = record { later = later; cause = tt }
serving_cause shelf shelf_now out out_now (ending.Sink count) later cause = record { later = later; cause = cause.0 }

pub serving_told : (folder : Folder) (how : ThreadsEnd) → (HasFault folder → ⊥) → TellsFaults folder (end_by how)
serving_told folder (ending.Answered mark groups) none = none
serving_told folder ending.NoMemory none = tt
serving_told folder (ending.Sink count) none = tt

pub serving_takes : (old new : ℕ → ℕ) (how : ThreadsEnd) → TakesByEnd old new (end_by how)
serving_takes old new (ending.Answered mark groups) = tt
serving_takes old new ending.NoMemory = tt
serving_takes old new (ending.Sink count) = tt
