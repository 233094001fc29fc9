-- A run that answers the calls on a storage. The records take what a shelf shows.
use Rattle.std.specs.Prelude.{◌≡◌, ◌⊎◌, ℕ, List, None}
use Rattle.dv_shelf.specs.Sees.{SeesFolder}
use Rattle.dv_maps.specs.Storages.{Storage}
use Rattle.dv_mdbox_lines.specs.Scripts.{Call}
use Rattle.dv_mdbox_serving.specs.declared.ending.StorageEnd.{StorageEnd}
use Rattle.dv_mdbox_serving.specs.declared.ending.StorageEnd.TheVariants as stored
use Rattle.dv_mdbox_serving.specs.Places.{StartsFrom}
use Rattle.dv_mdbox_serving.specs.Runs.{IfUnopened, RunsCalls}
use Rattle.dv_serving.specs.Faults.{Faults}
use Rattle.dv_serving.specs.Outputs.{Output}
use Rattle.dv_cli.specs.declared.ending.End.{End}
use Rattle.dv_cli.specs.declared.ending.End.TheVariants as end
use Rattle.dv_cli.specs.Causes.{ComesFrom, Counts}
use Rattle.dv_cli.specs.Endings.{Concludes, IsStatus}
use Rattle.dv_cli.specs.Wholes.{IsUnread, shelf_faults}

-- so it ends
abbrev pub stored_end : StorageEnd → End
stored_end (stored.Answered mark groups) = end.Answered mark groups None
stored_end (stored.Unopened f) = end.Unopened f
stored_end stored.NoMemory = end.NoMemory
stored_end stored.Sink = end.Sink

-- The calls are answered in the storage that the folder gives, or in a new one where it has none; or
-- the folder isn't opened, whatever it holds.
pub record AnswersCalls {S : Type 0} (sees : SeesFolder S) (faults : Faults) (calls : List Call)
    (e : End) (out : Output) (old new : S) : Type 0 where
  pub how : StorageEnd
  pub is : e ≡ stored_end how
  pub runs : (start : Storage) → StartsFrom (sees.files old) start
      → RunsCalls sees start faults calls how out old new
  pub unopened : IfUnopened sees how out old new

-- so it is, or the script couldn't be read after all, and the folder is untouched
abbrev pub RunsStorage : {S : Type 0} → SeesFolder S → Faults → List Call → End → Output → S → S
    → Type 0
RunsStorage sees faults calls e out old new =
    IsUnread e out.taken out.taken_now old new ⊎ AnswersCalls sees faults calls e out old new

-- A run over the calls of a script, behind which the last line was written.
pub record IsStorageRun {S : Type 0} (sees : SeesFolder S) (before now : Counts)
    (calls : List Call) (status : ℕ) (out : Output) (old new : S) : Type 0 where
  pub how : End
  pub between : List ℕ
  pub runs : RunsStorage sees (shelf_faults before now) calls how
      (record out { taken_now = between }) old new
  pub cause : ComesFrom before now how
  pub ended : IsStatus how status
  pub concludes : out.told → Concludes how status between out.taken_now
