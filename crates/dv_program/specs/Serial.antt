-- A run that does one thing after another. It takes what the outside shows.
use Rattle.std.specs.Prelude.{◌≡◌, ◌≢◌, ℕ, List, Ok, Option, Some}
use Rattle.dv_model.specs.declared.types.Key.{Key}
use Rattle.dv_shelf.specs.Crashes.{IsSettled}
use Rattle.dv_shelf.specs.Streams.{Appends}
use Rattle.dv_formats.specs.Scripts.{NamedLine}
use Rattle.dv_script.specs.Beside.{parsed_beside}
use Rattle.dv_mdbox_lines.specs.Scripts as storage
use Rattle.dv_mdbox_lines.specs.Scripts.{Call}
use Rattle.dv_notices.specs.declared.telling.Told.{Told}
use Rattle.dv_qresync.specs.declared.types.Old.{Old}
use Rattle.dv_serving.specs.NextRuns.{IsTrueFolder}
use Rattle.dv_serving.specs.Outputs.{output_of}
use Rattle.dv_serving.specs.Readings.{AtReadings}
use Rattle.dv_cli.specs.Causes.{AnyRose, IsTimed}
use Rattle.dv_cli.specs.Outputs.{IsFolderOf, IsOutputOf}
use Rattle.dv_cli.specs.Resyncing.{IsClientRun}
use Rattle.dv_cli.specs.Spans.{times_from, times_of}
use Rattle.dv_cli.specs.Storing.{IsStorageRun}
use Rattle.dv_cli.specs.Tasks.{Answers, parsed_for}
use Rattle.dv_cli.specs.Watching.{IsWatchRun}
use Rattle.dv_cli.specs.Wholes.{IsRebuildRun, IsRun}
use Rattle.dv_cli.specs.declared.words.Task.{Task}
use Rattle.dv_cli.specs.declared.words.Task.TheVariants as task
use Rattle.dv_program.specs.Moments.{Moment, Outside, counts_at}

module _ {S I O C : Type 0} (sees : Outside S I O C) (t : Option Task)
    (old new : Moment S I O C) where
  -- Over a settled folder whose cache file is true, with the lines of a script or generated ones.
  -- Each reply is the session rules' answer over a prefix of the one log that was found, or made,
  -- and that the written groups go on, line by line. The bytes written are these replies, but to
  -- generated lines, and the last lines. What is left gives that log with its messages and a true
  -- cache, behind all these groups, or with the group of the last write that the disk failed; and
  -- so does a crash at any moment, behind a front of them.
  abbrev AnswersLines : ℕ → Type 0
  AnswersLines status = sees.folder.tells → IsSettled sees.folder old.shelf
      → IsTrueFolder (sees.folder.files old.shelf) → (lines : List NamedLine)
      → Answers t sees.script.tells (parsed_for t (sees.script.left old.script)) lines
      → AtReadings sees.clock.tells (sees.clock.upcoming old.clock) (λ readings.
      IsRun sees.folder (times_from sees.clock readings new.clock) (counts_at sees old)
      (counts_at sees new) t lines status (output_of sees.output old.out new.out) old.shelf
      new.shelf)

  -- A settled folder is rebuilt at a reading, the clock's where it tells, or left as it was, by a
  -- crash at any moment too.
  abbrev Rebuilds : ℕ → Told → Type 0
  Rebuilds status told = t ≡ Some task.Rebuild → sees.folder.tells
      → IsSettled sees.folder old.shelf
      → IsRebuildRun sees.folder (times_of sees.clock old.clock new.clock) (counts_at sees old)
      (counts_at sees new) status told (output_of sees.output old.out new.out) old.shelf new.shelf

  -- A client with an older state is answered from the mailbox that was found, or made, and nothing
  -- else is written. The folder is left as opening leaves it, by a crash at any moment too.
  abbrev Resyncs : ℕ → Type 0
  Resyncs status = (client : Old) → t ≡ Some (task.Resync client) → sees.folder.tells
      → IsSettled sees.folder old.shelf → IsTrueFolder (sees.folder.files old.shelf)
      → AtReadings sees.clock.tells (sees.clock.upcoming old.clock) (λ readings.
      IsClientRun sees.folder (times_from sees.clock readings new.clock) (counts_at sees old)
      (counts_at sees new) client status (output_of sees.output old.out new.out) old.shelf
      new.shelf)

  -- Beside a kept search the lines are answered in the same way. Behind the replies to each line
  -- that wrote an entry stands what the key finds then, which is the answer of a UID SEARCH in the
  -- mailbox of the log so far; behind no other line there is one.
  abbrev Watches : ℕ → Type 0
  Watches status = (key : Key) → t ≡ Some (task.Watch key) → sees.folder.tells
      → sees.script.tells → IsSettled sees.folder old.shelf
      → IsTrueFolder (sees.folder.files old.shelf) → (lines : List NamedLine)
      → parsed_beside (sees.script.left old.script) ≡ Ok lines
      → AtReadings sees.clock.tells (sees.clock.upcoming old.clock) (λ readings.
      IsWatchRun sees.folder (times_from sees.clock readings new.clock) (counts_at sees old)
      (counts_at sees new) key lines status (output_of sees.output old.out new.out) old.shelf
      new.shelf)

  -- The calls of a script are answered by the storage that was found, or made, and the answers are
  -- written. What is left gives the storage behind them, and a crash at any moment the one before a
  -- call or behind it, with each message that has a reference.
  abbrev Stores : ℕ → Type 0
  Stores status = t ≡ Some task.Storage → sees.folder.tells → sees.script.tells
      → IsSettled sees.folder old.shelf → (calls : List Call)
      → storage.parsed (sees.script.left old.script) ≡ Ok calls
      → IsStorageRun sees.folder (counts_at sees old) (counts_at sees new) calls status
      (output_of sees.output old.out new.out) old.shelf new.shelf

  -- Without want of memory and with nothing failed the output is a function of the words, the
  -- folder, the script and the clock; of a storage it is the answers by its rules.
  abbrev IsDetermined : ℕ → Type 0
  IsDetermined status = sees.folder.tells → sees.clock.tells → sees.script.tells
      → sees.output.tells → IsSettled sees.folder old.shelf
      → IsTrueFolder (sees.folder.files old.shelf)
      → IsFolderOf t (sees.folder.files old.shelf) → status ≢ 4
      → (AnyRose (counts_at sees old) (counts_at sees new) → ⊥)
      → (text : List ℕ)
      × Appends (sees.output.taken old.out) (sees.output.taken new.out) text
      × IsOutputOf t (sees.script.left old.script) (sees.clock.upcoming old.clock)
      (sees.folder.files old.shelf) text

  -- All this, by the task; and the clock is read once at most for a mailbox that is made, and twice
  -- at most for each line.
  pub record RunsSerially (status : ℕ) (told : Told) : Type 0 where
    pub runs : AnswersLines status
    pub rebuilds : Rebuilds status told
    pub resyncs : Resyncs status
    pub watches : Watches status
    pub stores : Stores status
    pub output : IsDetermined status
    pub readings : sees.clock.tells → IsTimed t sees.script.tells
        (parsed_for t (sees.script.left old.script)) status (sees.clock.upcoming old.clock)
        (sees.clock.upcoming new.clock)
