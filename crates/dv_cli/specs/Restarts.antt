-- What a next run may rest on. The records take what shelves show.
use Rattle.std.specs.Prelude.{ℕ, List, Option}
use Rattle.dv_model.specs.declared.types.Mailbox.{Mailbox}
use Rattle.dv_model.specs.declared.types.Mark.{Mark}
use Rattle.dv_model.specs.Journals.{Log}
use Rattle.dv_shelf.specs.Causes.{Stayed}
use Rattle.dv_shelf.specs.Crashes.{IsSettled}
use Rattle.dv_shelf.specs.Folders.{Folder}
use Rattle.dv_shelf.specs.Sees.{SeesFolder, SeesOutput, SeesTime}
use Rattle.dv_formats.specs.Scripts.{NamedLine}
use Rattle.dv_notices.specs.declared.telling.Told.{Told}
use Rattle.dv_writing.specs.Keeping.{Gives}
use Rattle.dv_serving.specs.NextRuns.{IsTrueFolder}
use Rattle.dv_serving.specs.Outputs.{output_of}
use Rattle.dv_cli.specs.declared.words.Task.{Task}
use Rattle.dv_cli.specs.Causes.{Counts}
use Rattle.dv_cli.specs.Spans.{times_from, times_of}
use Rattle.dv_beginning.specs.Starts.{Starts, log_from}
use Rattle.dv_cli.specs.Wholes.{IsRebuildRun, IsRun}

-- what a run asks of a folder: a crash would leave just what a read gives, and the cache is true
pub record MayRun {S : Type 0} (sees : SeesFolder S) (shelf : S) : Type 0 where
  pub settled : IsSettled sees shelf
  pub seen : IsTrueFolder (sees.files shelf)

-- Behind a restart the folder is one that a crash might have left, and nothing of it is to come.
pub record IsRestarted {S T : Type 0} (sees : SeesFolder S) (seen : SeesFolder T) (left : S)
    (next : T) : Type 0 where
  pub settled : IsSettled seen next
  pub there : sees.may_leave left (seen.files next)

module _ {S O C : Type 0} where
  -- Where no fault of the folder was counted, a run leaves what a run asks of a folder, whatever
  -- the readings are at which it ran.
  abbrev pub RunsGoOn : SeesFolder S → SeesOutput O → SeesTime C → Type 0
  RunsGoOn sees seen ticks = (before now : Counts) (t : Option Task) (lines : List NamedLine)
      (status : ℕ) (clock : ℕ → ℕ) (clock_now : C) (out out_now : O) (old new : S)
      → MayRun sees old
      → IsRun sees (times_from ticks clock clock_now) before now t lines status
      (output_of seen out out_now) old new
      → Stayed before.shelf now.shelf → MayRun sees new

  -- so does one that rebuilds its folder
  abbrev pub RebuildsGoOn : SeesFolder S → SeesOutput O → SeesTime C → Type 0
  RebuildsGoOn sees seen ticks = (before now : Counts) (status : ℕ) (said : Told)
      (clock clock_now : C) (out out_now : O) (old new : S) → MayRun sees old
      → IsRebuildRun sees (times_of ticks clock clock_now) before now status said
      (output_of seen out out_now) old new
      → Stayed before.shelf now.shelf → MayRun sees new

-- a folder that gives a log starts from its mailbox, at its place, with the messages of its files
abbrev pub LogsStart : Type 0
LogsStart = (clock : ℕ → ℕ) (log : Log) (m : Mailbox) (mark : Mark) (c : Folder)
    → Gives log m mark c → Starts clock c (log_from log.indexid m mark c) 0
