-- What a run writes, where nothing fails and memory suffices: it depends on the words, the folder,
-- the script and the clock alone.
use Rattle.std.specs.Prelude.{◌≡◌, ◌⊎◌, ◌++◌, ℕ, All, List, [], length, map, Option, Some, None, Result, Ok, Err, ⊤}
use Rattle.dv_model.specs.declared.types.Key.{Key}
use Rattle.dv_model.specs.declared.types.Mark.{Mark}
use Rattle.dv_model.specs.declared.types.OpenFault.{OpenFault}
use Rattle.dv_model.specs.Journals.{Log}
use Rattle.dv_model.specs.Transcripts as transcripts
use Rattle.dv_shelf.specs.Clocks.{behind}
use Rattle.dv_shelf.specs.Folders.{Folder, IsNew}
use Rattle.dv_formats.specs.Parsing.{ScriptFault, parsed}
use Rattle.dv_formats.specs.Scripts.{NamedLine}
use Rattle.dv_chain.specs.Openings.{FaultFound}
use Rattle.dv_openings.specs.Openings.{IsFound}
use Rattle.dv_playing.specs.Playing.{Attempt, Play, Served, begin, replies_to}
use Rattle.dv_script.specs.Beside.{parsed_beside}
use Rattle.dv_script.specs.declared.types.ScriptEnd.TheVariants as script
use Rattle.dv_serial.specs.Places.{play_of}
use Rattle.dv_serving.specs.Scripts.{numbered, replies_text}
use Rattle.dv_openings.specs.Rebuilds.{IsRebuild, Rebuild}
use Rattle.dv_qresync.specs.declared.types.Old.{Old}
use Rattle.dv_qresync.specs.Answers.{resynced}
use Rattle.dv_qresync.specs.Texts.{answers_text}
use Rattle.dv_watching.specs.Texts.{lines_text}
use Rattle.dv_maps.specs.Storages.{Storage}
use Rattle.dv_mdbox_lines.specs.Playing.{MayGo, Tried}
use Rattle.dv_mdbox_lines.specs.Scripts as storage
use Rattle.dv_mdbox_lines.specs.Scripts.{Call}
use Rattle.dv_mdbox_lines.specs.Texts.{tried_texts}
use Rattle.dv_mdbox_serving.specs.Following.{HaveGroups, failures_of}
use Rattle.dv_mdbox_serving.specs.Places.{StartsFrom}
use Rattle.dv_mdbox_serving.specs.Runs.{IsAnswered, calls_of}
use Rattle.dv_cli.specs.declared.words.Load.{Load}
use Rattle.dv_cli.specs.declared.words.Task.{Task}
use Rattle.dv_cli.specs.declared.words.Task.TheVariants as task
use Rattle.dv_cli.specs.Behind.{loaded_by}
use Rattle.dv_beginning.specs.Causes.{HasFault, IsFault}
use Rattle.dv_cli.specs.Running.{answered_text, end_text, fault_text, rebuilt_text, script_text, usage_text}
use Rattle.dv_beginning.specs.Starts.{Starts}
use Rattle.dv_cli.specs.Tasks.{generated_by}

-- a line that is served
abbrev pub served : transcripts.Line → Attempt
served line = record { line = line; outcome = Served }

-- all lines so
abbrev pub all_served : List NamedLine → List Attempt
all_served lines = map served (numbered lines)

-- the replies to all lines over a log
abbrev pub replies_over : (ℕ → ℕ) → Log → List NamedLine → List ℕ
replies_over clock start lines =
    replies_text lines (replies_to clock (begin start) (all_served lines))

-- the last lines behind them
abbrev pub last_over : (ℕ → ℕ) → Option Load → Log → List NamedLine → List ℕ
last_over clock load start lines =
    let behind_all : Play = play_of clock start (all_served lines) in
    answered_text behind_all.mark (length behind_all.log.entries)
    (loaded_by load behind_all.mailbox)

-- both; where the lines were generated no replies
abbrev pub output_over : (ℕ → ℕ) → Option Load → Log → List NamedLine → List ℕ
output_over clock None start lines =
    replies_over clock start lines ++ last_over clock None start lines
output_over clock (Some load) start lines = last_over clock (Some load) start lines

-- the text of a script's fault
abbrev pub script_fault_text : ScriptFault → List ℕ
script_fault_text (ScriptFault.BadLine line) = script_text (script.BadLine line)
script_fault_text (ScriptFault.ShortLiteral line) = script_text (script.ShortLiteral line)
script_fault_text ScriptFault.TooLong = script_text script.TooLong

-- So it is of lines over a mailbox that is found or made; else it is the fault of the folder.
abbrev pub IsOutputOver : Option Load → List NamedLine → (ℕ → ℕ) → Folder → List ℕ → Type 0
IsOutputOver load lines clock folder text =
    ((start : Log) (used : ℕ) → Starts clock folder start used
    → text ≡ output_over (behind clock used) load start lines)
    × ((f : OpenFault) → IsFault f → (IsNew folder → ⊥) → FaultFound f (IsFound folder)
    → text ≡ fault_text f)

-- of a script it may be that script's fault
abbrev pub IsOutputBy : Result (List NamedLine) ScriptFault → (ℕ → ℕ) → Folder → List ℕ → Type 0
IsOutputBy (Ok lines) clock folder text = IsOutputOver None lines clock folder text
IsOutputBy (Err fault) clock folder text = text ≡ script_fault_text fault

-- beside a kept search what the key finds stands behind the replies to each line that wrote an
-- entry
abbrev pub output_beside : (ℕ → ℕ) → Key → Log → List NamedLine → List ℕ
output_beside clock key start lines =
    lines_text clock key (begin start) lines (all_served lines) ++ last_over clock None start lines

-- so it is over a mailbox that is found or made; else it is the fault of the folder
abbrev pub IsOutputBeside : Key → List NamedLine → (ℕ → ℕ) → Folder → List ℕ → Type 0
IsOutputBeside key lines clock folder text =
    ((start : Log) (used : ℕ) → Starts clock folder start used
    → text ≡ output_beside (behind clock used) key start lines)
    × ((f : OpenFault) → IsFault f → (IsNew folder → ⊥) → FaultFound f (IsFound folder)
    → text ≡ fault_text f)

-- of a script it may be that script's fault
abbrev pub IsWatchOutput : Key → Result (List NamedLine) ScriptFault → (ℕ → ℕ) → Folder → List ℕ
    → Type 0
IsWatchOutput key (Ok lines) clock folder text = IsOutputBeside key lines clock folder text
IsWatchOutput key (Err fault) clock folder text = text ≡ script_fault_text fault

-- of a rebuild it says what that keeps
pub record IsRebuiltOutput (clock : ℕ → ℕ) (folder : Folder) (text : List ℕ) : Type 0 where
  pub does : Rebuild
  pub is : IsRebuild folder (clock 0) does
  pub text_is : text ≡ rebuilt_text (length does.kept) does.skipped

-- To a client with an older state it is what it hears of a mailbox that is found or made; else it
-- is the fault of the folder.
abbrev pub IsOutputTo : Old → (ℕ → ℕ) → Folder → List ℕ → Type 0
IsOutputTo client clock folder text =
    ((start : Log) (used : ℕ) → Starts clock folder start used
    → text ≡ answers_text (resynced start.start client) ++ answered_text start.start_mark 0 None)
    × ((f : OpenFault) → IsFault f → (IsNew folder → ⊥) → FaultFound f (IsFound folder)
    → text ≡ fault_text f)

-- All calls on a storage were answered by its rules, and none was failed by the disk.
pub record AreAnswers (start : Storage) (calls : List Call) (text : List ℕ) : Type 0 where
  pub tried : List Tried
  pub of : calls ≡ calls_of tried
  pub may : MayGo start tried
  pub each : All IsAnswered tried
  pub failures : failures_of tried ≡ []
  pub mark : Mark
  pub groups : ℕ
  pub written : HaveGroups tried groups
  pub is : text ≡ tried_texts tried ++ end_text mark groups

-- The answers to a script's calls in the storage that the folder gives, or in a new one; else it is
-- the fault of the folder, or of the script.
abbrev pub IsStorageOutput : Result (List Call) ScriptFault → Folder → List ℕ → Type 0
IsStorageOutput (Ok calls) folder text =
    ((start : Storage) → StartsFrom folder start → AreAnswers start calls text)
    × ((f : OpenFault) → IsFault f → (IsNew folder → ⊥) → FaultFound f (IsFound folder)
    → text ≡ fault_text f)
IsStorageOutput (Err fault) folder text = text ≡ script_fault_text fault

-- the calls on a storage are of a folder that gives one, or has none, or a fault
abbrev pub IsFolderOf : Option Task → Folder → Type 0
IsFolderOf (Some task.Storage) folder =
    HasFault folder ⊎ ((start : Storage) × StartsFrom folder start)
IsFolderOf t folder = ⊤

-- by the task, or that there is none
abbrev pub IsOutputOf : Option Task → List ℕ → (ℕ → ℕ) → Folder → List ℕ → Type 0
IsOutputOf None b clock folder text = text ≡ usage_text
IsOutputOf (Some task.Run) b clock folder text = IsOutputBy (parsed b) clock folder text
IsOutputOf (Some task.Rebuild) b clock folder text = IsRebuiltOutput clock folder text
IsOutputOf (Some (task.Generate load)) b clock folder text =
    IsOutputOver (Some load) (generated_by load) clock folder text
IsOutputOf (Some (task.Resync client)) b clock folder text =
    IsOutputTo client clock folder text
IsOutputOf (Some (task.Watch key)) b clock folder text =
    IsWatchOutput key (parsed_beside b) clock folder text
IsOutputOf (Some task.Storage) b clock folder text = IsStorageOutput (storage.parsed b) folder text
