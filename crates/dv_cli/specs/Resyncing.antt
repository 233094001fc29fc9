-- A run that answers a client with an older state. The records take what a shelf shows.
use Rattle.std.specs.Prelude.{◌≡◌, ◌⊎◌, ℕ, List, None}
use Rattle.dv_shelf.specs.Sees.{SeesFolder}
use Rattle.dv_serving.specs.Outputs.{Output}
use Rattle.dv_qresync.specs.declared.types.Old.{Old}
use Rattle.dv_catching.specs.declared.catching.CatchEnd.{CatchEnd}
use Rattle.dv_catching.specs.declared.catching.CatchEnd.TheVariants as caught
use Rattle.dv_catching.specs.Catching.{CatchesOver}
use Rattle.dv_cli.specs.Causes.{ComesFrom, Counts}
use Rattle.dv_cli.specs.Endings.{Concludes, IsStatus}
use Rattle.dv_cli.specs.Spans.{Times}
use Rattle.dv_cli.specs.declared.ending.End.{End}
use Rattle.dv_cli.specs.declared.ending.End.TheVariants as end

-- no group is written
abbrev pub caught_end : CatchEnd → End
caught_end (caught.Answered mark) = end.Answered mark 0 None
caught_end (caught.Unopened f) = end.Unopened f
caught_end caught.NoMemory = end.NoMemory
caught_end caught.Sink = end.Sink

-- so it ends
pub record AnswersClient {S : Type 0} (sees : SeesFolder S) (times : Times) (client : Old)
    (e : End) (out : Output) (old new : S) : Type 0 where
  pub how : CatchEnd
  pub is : e ≡ caught_end how
  pub catches : CatchesOver sees times.clock client how out old new

-- memory ran out before the folder was touched
pub record IsUnasked {S : Type 0} (e : End) (out : Output) (old new : S) : Type 0 where
  pub end : e ≡ end.NoMemory
  pub output : out.taken_now ≡ out.taken
  pub shelf : new ≡ old

-- The client is answered from the folder, or it isn't touched.
abbrev pub RunsClient : {S : Type 0} → SeesFolder S → Times → Old → End → Output → S → S → Type 0
RunsClient sees times client e out old new =
    IsUnasked e out old new ⊎ AnswersClient sees times client e out old new

-- A run that answers a client, behind which the last line was written.
pub record IsClientRun {S : Type 0} (sees : SeesFolder S) (times : Times) (before now : Counts)
    (client : Old) (status : ℕ) (out : Output) (old new : S) : Type 0 where
  pub how : End
  pub between : List ℕ
  pub runs : RunsClient sees times client how (record out { taken_now = between }) old new
  pub cause : ComesFrom before now how
  pub ended : IsStatus how status
  pub concludes : out.told → Concludes how status between out.taken_now
