-- A whole run, with its last line. The records take what a shelf shows.
use Rattle.std.specs.Prelude.{◌≡◌, ◌⊎◌, ℕ, List, Option, ⊤}
use Rattle.dv_script.specs.declared.types.ScriptEnd.TheVariants as script
use Rattle.dv_formats.specs.Parsing.{ScriptFault}
use Rattle.dv_formats.specs.Scripts.{NamedLine}
use Rattle.dv_serving.specs.Outputs.{Output}
use Rattle.dv_cli.specs.declared.ending.End.{End}
use Rattle.dv_cli.specs.declared.ending.End.TheVariants as end
use Rattle.dv_cli.specs.Causes.{ComesFrom, Counts, EndsRefused}
use Rattle.dv_cli.specs.Endings.{Concludes, IsStatus}
use Rattle.dv_cli.specs.Rebuilding.{RebuildsFolder}
use Rattle.dv_cli.specs.Runs.{RunsOver}
use Rattle.dv_cli.specs.Spans.{Times}
use Rattle.dv_serving.specs.Faults.{Faults, faults_between}
use Rattle.dv_cli.specs.Tasks.{HasScript, load_in, replies_of}
use Rattle.dv_cli.specs.declared.words.Task.{Task}
use Rattle.dv_notices.specs.declared.telling.Told.{Told}
use Rattle.dv_shelf.specs.Sees.{SeesFolder}

-- reading a good script ends a run so
abbrev pub EndsReading : End → Type 0
EndsReading (end.Source faults) = ⊤
EndsReading end.NoMemory = ⊤
EndsReading (end.Script script.NoMemory) = ⊤
EndsReading e = ⊥

-- the script couldn't be read, or memory ran out before the folder was touched
abbrev pub IsUnread : {S : Type 0} → End → List ℕ → List ℕ → S → S → Type 0
IsUnread e taken taken_now old new =
    EndsReading e × (taken_now ≡ taken) × (new ≡ old)

-- The lines of a task: the script couldn't be read after all, and the folder is untouched; or they
-- were answered, or the folder isn't opened, as it always is with generated ones. To these no reply
-- is written.
pub record RunsTask {S : Type 0} (sees : SeesFolder S) (times : Times) (faults : Faults)
    (t : Option Task) (lines : List NamedLine) (e : End) (out : Output) (old new : S)
    : Type 0 where
  pub runs : IsUnread e out.taken out.taken_now old new
      ⊎ RunsOver sees times faults (load_in t) lines e (replies_of t out) old new
  pub loads : (HasScript t → ⊥)
      → RunsOver sees times faults (load_in t) lines e (replies_of t out) old new
  pub silent : (HasScript t → ⊥) → out.taken_now ≡ out.taken

-- how often the folder's calls had failed, of all counts
abbrev pub shelf_faults : Counts → Counts → Faults
shelf_faults before now = faults_between before.shelf now.shelf

-- A run over the lines of a task, behind which the last line was written.
pub record IsRun {S : Type 0} (sees : SeesFolder S) (times : Times) (before now : Counts)
    (t : Option Task) (lines : List NamedLine) (status : ℕ) (out : Output) (old new : S)
    : Type 0 where
  pub how : End
  pub between : List ℕ
  pub runs : RunsTask sees times (shelf_faults before now) t lines how
      (record out { taken_now = between }) old new
  pub cause : ComesFrom before now how
  pub ended : IsStatus how status
  pub concludes : out.told → Concludes how status between out.taken_now

-- A run that rebuilds its folder, behind which the last line was written.
pub record IsRebuildRun {S : Type 0} (sees : SeesFolder S) (times : Times)
    (before now : Counts) (status : ℕ) (said : Told) (out : Output) (old new : S)
    : Type 0 where
  pub how : End
  pub rebuilds : RebuildsFolder sees times how said old new
  pub cause : ComesFrom before now how
  pub ended : IsStatus how status
  pub concludes : out.told → Concludes how status out.taken out.taken_now

-- The script is refused, or couldn't be read: the last line tells it.
pub record IsRefused (fault : ScriptFault) (before now : Counts) (status : ℕ) (out : Output)
    : Type 0 where
  pub how : End
  pub ends : EndsRefused fault how
  pub cause : ComesFrom before now how
  pub ended : IsStatus how status
  pub concludes : out.told → Concludes how status out.taken out.taken_now
