-- A script that sessions in threads serve, with its last line. The records take what a shelf shows.
use Rattle.std.specs.Prelude.{◌≡◌, ◌⊎◌, ℕ, List, None}
use Rattle.dv_shelf.specs.Sees.{SeesFolder}
use Rattle.dv_formats.specs.Scripts.{NamedLine}
use Rattle.dv_serving.specs.Faults.{Faults}
use Rattle.dv_serving.specs.Outputs.{Output}
use Rattle.dv_threads.specs.Serves.{ServesThreads}
use Rattle.dv_threads.specs.declared.ending.ThreadsEnd.{ThreadsEnd}
use Rattle.dv_threads.specs.declared.ending.ThreadsEnd.TheVariants as ending
use Rattle.dv_cli.specs.Causes.{ComesFrom, Counts}
use Rattle.dv_cli.specs.Endings.{Concludes, IsStatus}
use Rattle.dv_cli.specs.Runs.{UnlessUnopened}
use Rattle.dv_cli.specs.Spans.{Times}
use Rattle.dv_cli.specs.Wholes.{IsUnread, shelf_faults}
use Rattle.dv_cli.specs.declared.ending.End.{End}
use Rattle.dv_cli.specs.declared.ending.End.TheVariants as end

-- how the run ends, by how the serving does
abbrev pub end_by : ThreadsEnd → End
end_by (ending.Answered mark groups) = end.Answered mark groups None
end_by ending.NoMemory = end.NoMemory
end_by (ending.Sink faults) = end.Sink

-- The lines were answered by sessions in threads: over one log, which has each group once and by
-- which two sessions at one place see one mailbox and a number keeps its UID, in an order of steps
-- that is an interleaving.
pub record ServesBy {S : Type 0} (sees : SeesFolder S) (times : Times) (faults : Faults)
    (lines : List NamedLine) (e : End) (out : Output) (old new : S) : Type 0 where
  pub how : ThreadsEnd
  pub is : e ≡ end_by how
  pub serves : ServesThreads sees times.clock times.told faults lines how out old new

-- so they are, or the folder isn't opened
abbrev pub RunsBy : {S : Type 0} → SeesFolder S → Times → Faults → List NamedLine → End → Output
    → S → S → Type 0
RunsBy sees times faults lines e out old new =
    UnlessUnopened sees times (λ how. ServesBy sees times faults lines how out old new) e out old
    new

-- the script couldn't be read after all, and the folder is untouched; or its lines were answered so
abbrev pub RunsThreads : {S : Type 0} → SeesFolder S → Times → Faults → List NamedLine → End
    → Output → S → S → Type 0
RunsThreads sees times faults lines e out old new =
    IsUnread e out.taken out.taken_now old new ⊎ RunsBy sees times faults lines e out old new

-- A run by sessions in threads, behind which the last line was written.
pub record IsThreadsRun {S : Type 0} (sees : SeesFolder S) (times : Times) (before now : Counts)
    (lines : List NamedLine) (status : ℕ) (out : Output) (old new : S) : Type 0 where
  pub how : End
  pub between : List ℕ
  pub runs : RunsThreads sees times (shelf_faults before now) lines how
      (record out { taken_now = between }) old new
  pub cause : ComesFrom before now how
  pub ended : IsStatus how status
  pub concludes : out.told → Concludes how status between out.taken_now
