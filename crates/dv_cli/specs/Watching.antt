-- A run that answers a script beside a kept search. The records take what a shelf shows.
use Rattle.std.specs.Prelude.{◌≡◌, ◌⊎◌, ◌++◌, ℕ, List, drop, length, Some, None}
use Rattle.dv_model.specs.declared.types.Key.{Key}
use Rattle.dv_model.specs.Journals.{Log, at}
use Rattle.dv_shelf.specs.Clocks.{behind}
use Rattle.dv_shelf.specs.Sees.{SeesFolder}
use Rattle.dv_shelf.specs.Streams.{Appends, AppendsFront}
use Rattle.dv_formats.specs.Scripts.{NamedLine}
use Rattle.dv_playing.specs.Playing.{Attempt, begin}
use Rattle.dv_serving.specs.Faults.{Faults}
use Rattle.dv_serving.specs.Outputs.{Output}
use Rattle.dv_serial.specs.Places.{play_of}
use Rattle.dv_live.specs.Laws.{IsSearched}
use Rattle.dv_watching.specs.Texts.{found_in, lines_text}
use Rattle.dv_watching.specs.Watching.{IsTried, unsaid}
use Rattle.dv_cli.specs.declared.ending.End.{End}
use Rattle.dv_cli.specs.declared.ending.End.TheVariants as end
use Rattle.dv_cli.specs.Causes.{ComesFrom, Counts}
use Rattle.dv_cli.specs.Endings.{Concludes, IsStatus}
use Rattle.dv_cli.specs.Runs.{ServesLines, UnlessUnopened}
use Rattle.dv_cli.specs.Spans.{Times}
use Rattle.dv_cli.specs.Wholes.{IsUnread, shelf_faults}

-- ---- lines that were answered

-- the text of the answered lines was written, what the key finds behind each that wrote an entry;
-- where the output failed then, a front of the next line's too
abbrev pub WritesBeside : End → (ℕ → ℕ) → Log → Key → List Attempt → List Attempt → List NamedLine
    → List ℕ → List ℕ → Type 0
WritesBeside end.Sink clock start key answered left lines old new =
    (text : List ℕ)
    × IsTried clock start key answered left (drop (length answered) lines) text
    × AppendsFront (old ++ lines_text clock key (begin start) lines answered) new text
WritesBeside e clock start key answered left lines old new =
    Appends old new (lines_text clock key (begin start) lines answered)

-- Behind these lines the mailbox is that of all entries of the log so far, and what the key finds
-- in it is the answer of a UID SEARCH there (RFC 3501, section 6.4.8).
pub record IsFoundBehind (clock : ℕ → ℕ) (start : Log) (key : Key) (front : List Attempt) : Type 0
  where
    pub mailbox : at (play_of clock start front).log
        (length (play_of clock start front).log.entries)
        ≡ Some (play_of clock start front).mailbox
    pub found : IsSearched key (found_in key (play_of clock start front).mailbox)
        (play_of clock start front).mailbox

-- The lines are answered as without the search, but for what is written: behind the replies to each
-- answered line that wrote an entry stands what the key finds then.
pub record ServesBeside {S : Type 0} (sees : SeesFolder S) (times : Times) (faults : Faults)
    (key : Key) (lines : List NamedLine) (e : End) (out : Output) (old new : S) : Type 0 where
  pub serves : ServesLines sees times faults None lines e (unsaid out) old new
  pub output : out.told → WritesBeside e (behind times.clock serves.used) serves.start key
      serves.answered serves.left lines out.taken out.taken_now
  pub finds : (front back : List Attempt) → serves.answered ≡ front ++ back
      → IsFoundBehind (behind times.clock serves.used) serves.start key front

-- ---- a run over a folder

-- the lines of a script are answered beside such a search, or the folder isn't opened
abbrev pub RunsBeside : {S : Type 0} → SeesFolder S → Times → Faults → Key → List NamedLine → End
    → Output → S → S → Type 0
RunsBeside sees times faults key lines e out old new =
    UnlessUnopened sees times (λ how. ServesBeside sees times faults key lines how out old new) e
    out old new

-- ---- with the last line

-- The script couldn't be read after all, and the folder is untouched; or its lines were answered
-- beside the search, or the folder isn't opened.
abbrev pub RunsWatch : {S : Type 0} → SeesFolder S → Times → Faults → Key → List NamedLine → End
    → Output → S → S → Type 0
RunsWatch sees times faults key lines e out old new =
    IsUnread e out.taken out.taken_now old new
    ⊎ RunsBeside sees times faults key lines e out old new

-- A run over the lines of a script beside a kept search, behind which the last line was written.
pub record IsWatchRun {S : Type 0} (sees : SeesFolder S) (times : Times) (before now : Counts)
    (key : Key) (lines : List NamedLine) (status : ℕ) (out : Output) (old new : S) : Type 0 where
  pub how : End
  pub between : List ℕ
  pub runs : RunsWatch sees times (shelf_faults before now) key lines how
      (record out { taken_now = between }) old new
  pub cause : ComesFrom before now how
  pub ended : IsStatus how status
  pub concludes : out.told → Concludes how status between out.taken_now
