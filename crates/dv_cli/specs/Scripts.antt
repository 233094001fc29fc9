-- A script that was read, by who answers it. The records take what a shelf shows.
use Rattle.std.specs.Prelude.{◌≡◌, ◌⊎◌, ◌≤◌, ◌^◌, ℕ, All, List, length, Option, Ok, ⊤}
use Rattle.dv_model.specs.declared.types.Key.{Key}
use Rattle.dv_shelf.specs.Folders.{Folder}
use Rattle.dv_shelf.specs.Sees.{SeesFolder}
use Rattle.dv_formats.specs.Scripts.{IsScript, NamedLine, sessions_of}
use Rattle.dv_mdbox_lines.specs.Scripts as storage
use Rattle.dv_mdbox_lines.specs.Scripts.{Call}
use Rattle.dv_mdbox_lines.specs.Views.{calls_left}
use Rattle.dv_script.specs.declared.script_lines.Script.{Script}
use Rattle.dv_script.specs.Opened.{lines_left}
use Rattle.dv_serving.specs.Faults.{Faults}
use Rattle.dv_serving.specs.NextRuns.{IsTrueFolder}
use Rattle.dv_serving.specs.Outputs.{Output}
use Rattle.dv_serving.specs.Readings.{TakesUpTo}
use Rattle.dv_serving.specs.Servable.{IsServable}
use Rattle.dv_cli.specs.declared.beside.Beside.{Beside}
use Rattle.dv_cli.specs.declared.ending.End.{End}
use Rattle.dv_cli.specs.declared.scripts.Opened.{Opened}
use Rattle.dv_cli.specs.declared.scripts.Opened.TheVariants as opened
use Rattle.dv_cli.specs.declared.scripts.Reader.{Reader}
use Rattle.dv_cli.specs.declared.scripts.Reader.TheVariants as reader
use Rattle.dv_cli.specs.Beside.{MayStand, RunsWith, beside_of}
use Rattle.dv_cli.specs.Causes.{TakesForCalls, TakesForRun, most_readings}
use Rattle.dv_cli.specs.Spans.{Times}
use Rattle.dv_cli.specs.Storing.{AnswersCalls, RunsStorage}
use Rattle.dv_cli.specs.Tasks.{parsed_with}
use Rattle.dv_cli.specs.Wholes.{IsUnread}

-- ---- who answers it

-- a search that is kept beside sessions can be
abbrev pub MayRead : Reader → Type 0
MayRead (reader.Sessions search) = MayStand (beside_of search)
MayRead reader.Storage = ⊤

-- two texts say the same, whoever answers them
pub record AreAlike (one other : List ℕ) : Type 0 where
  pub lines : (search : Option Key) → parsed_with search one ≡ parsed_with search other
  pub calls : storage.parsed one ≡ storage.parsed other

-- ---- what it says

-- the lines of sessions, each of which can be answered, with the search beside them
pub record HasLines (search : Option Key) (text : List ℕ) (script : Script) (beside : Beside)
    : Type 0 where
  pub lines : parsed_with search text ≡ Ok (lines_left script.lines)
  pub stands : beside ≡ beside_of search
  pub few : length (lines_left script.lines) ≤ length text
  pub sessions : script.sessions ≡ length (sessions_of (lines_left script.lines))
  pub found : IsScript (lines_left script.lines) text

-- those lines, or the calls on a storage
abbrev pub SaysOf : Reader → List ℕ → Opened → Type 0
SaysOf (reader.Sessions search) text (opened.Lines script beside) =
    HasLines search text script beside
SaysOf reader.Storage text (opened.Calls calls) = storage.parsed text ≡ Ok (calls_left calls)
SaysOf by text other = ⊥

-- ---- a run

-- lines of sessions can be answered
pub record AreServable (lines : List NamedLine) (sessions : ℕ) (beside : Beside) : Type 0 where
  pub stands : MayStand beside
  pub servable : All (λ line. IsServable line.1) lines
  pub few : length lines ≤ 2 ^ 26
  pub seats : sessions ≡ length (sessions_of lines)

abbrev pub MayServe : Opened → Type 0
MayServe (opened.Lines script beside) =
    AreServable (lines_left script.lines) script.sessions beside
MayServe (opened.Calls calls) = ⊤

-- sessions begin from a mailbox whose cache file is true
abbrev pub MayBeginBy : Reader → Folder → Type 0
MayBeginBy (reader.Sessions search) folder = IsTrueFolder folder
MayBeginBy reader.Storage folder = ⊤

-- the same of a script that was opened
abbrev pub MayBegin : Opened → Folder → Type 0
MayBegin (opened.Lines script beside) folder = IsTrueFolder folder
MayBegin (opened.Calls calls) folder = ⊤

-- the lines are answered, with what stands beside them, or the calls; or the folder isn't opened
abbrev pub AnswersOpened : {S : Type 0} → Opened → SeesFolder S → Times → Faults → End → Output
    → S → S → Type 0
AnswersOpened (opened.Lines script beside) sees times faults e out old new =
    RunsWith beside sees times faults (lines_left script.lines) e out old new
AnswersOpened (opened.Calls calls) sees times faults e out old new =
    AnswersCalls sees faults (calls_left calls) e out old new

-- so often the clock is read
abbrev pub TakesForOpened : Opened → (ℕ → ℕ) → (ℕ → ℕ) → End → Type 0
TakesForOpened (opened.Lines script beside) old new e =
    TakesForRun (length (lines_left script.lines)) old new e
TakesForOpened (opened.Calls calls) old new e = TakesForCalls old new e

-- ---- with the reading of the script

-- A good script is answered so by each, by sessions beside a search or without one, and by a
-- storage; or it couldn't be read after all, and the folder is untouched.
abbrev pub RunsScript : {S : Type 0} → Reader → List ℕ → SeesFolder S → Times → Faults → End
    → Output → S → S → Type 0
RunsScript (reader.Sessions search) script sees times faults e out old new =
    (lines : List NamedLine) → parsed_with search script ≡ Ok lines
    → IsUnread e out.taken out.taken_now old new
    ⊎ RunsWith (beside_of search) sees times faults lines e out old new
RunsScript reader.Storage script sees times faults e out old new =
    (calls : List Call) → storage.parsed script ≡ Ok calls
    → RunsStorage sees faults calls e out old new

-- so often sessions read the clock at most
abbrev pub TakesForScript : Reader → List ℕ → (ℕ → ℕ) → (ℕ → ℕ) → Type 0
TakesForScript (reader.Sessions search) script old new =
    (lines : List NamedLine) → parsed_with search script ≡ Ok lines
    → TakesUpTo (most_readings (length lines)) old new
TakesForScript reader.Storage script old new = ⊤
