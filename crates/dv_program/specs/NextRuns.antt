-- What a next run may rest on behind one in threads or by a POP3 session. The definitions take what
-- a shelf, an output and a clock show.
use Rattle.std.specs.Prelude.{ℕ, List}
use Rattle.dv_shelf.specs.Causes.{Stayed}
use Rattle.dv_shelf.specs.Sees.{SeesFolder, SeesOutput, SeesTime}
use Rattle.dv_formats.specs.Scripts.{NamedLine}
use Rattle.dv_maildrop.specs.declared.types.PopLine.{PopLine}
use Rattle.dv_serving.specs.Outputs.{output_of}
use Rattle.dv_cli.specs.Causes.{Counts}
use Rattle.dv_cli.specs.Restarts.{MayRun}
use Rattle.dv_cli.specs.Spans.{times_from}
use Rattle.dv_program.specs.Pop3.{IsPop3Run}
use Rattle.dv_program.specs.Serving.{IsThreadsRun}

module _ {S O C : Type 0} where
  -- Where no fault of the folder was counted, a run in threads leaves what a run asks of a folder,
  -- whatever the readings are at which it ran.
  abbrev pub ThreadsRunsGoOn : SeesFolder S → SeesOutput O → SeesTime C → Type 0
  ThreadsRunsGoOn sees seen ticks = (before now : Counts) (lines : List NamedLine) (status : ℕ)
      (clock : ℕ → ℕ) (clock_now : C) (out out_now : O) (old new : S)
      → MayRun sees old
      → IsThreadsRun sees (times_from ticks clock clock_now) before now lines status
      (output_of seen out out_now) old new
      → Stayed before.shelf now.shelf → MayRun sees new

  -- so does one by a POP3 session
  abbrev pub Pop3RunsGoOn : SeesFolder S → SeesOutput O → SeesTime C → Type 0
  Pop3RunsGoOn sees seen ticks = (before now : Counts) (lines : List PopLine) (status : ℕ)
      (clock : ℕ → ℕ) (clock_now : C) (out out_now : O) (old new : S)
      → MayRun sees old
      → IsPop3Run sees (times_from ticks clock clock_now) before now lines status
      (output_of seen out out_now) old new
      → Stayed before.shelf now.shelf → MayRun sees new
