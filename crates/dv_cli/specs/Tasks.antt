-- Which lines a task answers, and which ends it may come to.
use Rattle.std.specs.Prelude.{◌≡◌, ℕ, List, [], Option, Some, None, IsSome, Result, Ok, Err, ⊤}
use Rattle.dv_model.specs.declared.types.Key.{Key}
use Rattle.dv_formats.specs.Generators.{generated}
use Rattle.dv_formats.specs.Parsing.{ScriptFault, parsed}
use Rattle.dv_formats.specs.Scripts.{NamedLine}
use Rattle.dv_script.specs.Beside.{parsed_beside}
use Rattle.dv_mdbox_lines.specs.Scripts as storage
use Rattle.dv_mdbox_lines.specs.Scripts.{Call}
use Rattle.dv_serving.specs.Outputs.{Output}
use Rattle.dv_cli.specs.declared.scripts.Reader.{Reader}
use Rattle.dv_cli.specs.declared.scripts.Reader.TheVariants as reader
use Rattle.dv_cli.specs.declared.words.Load.{Load}
use Rattle.dv_cli.specs.declared.words.Task.{Task}
use Rattle.dv_cli.specs.declared.words.Task.TheVariants as task
use Rattle.dv_cli.specs.declared.ending.End.{End}
use Rattle.dv_cli.specs.declared.ending.End.TheVariants as end
use Rattle.dv_beginning.specs.Causes.{IsFault}

-- the lines of a load
abbrev pub generated_by : Load → List NamedLine
generated_by load = generated load.seed load.count load.sessions

-- ---- the script

-- who answers a script of a task
abbrev pub reader_of : Option Task → Reader
reader_of (Some (task.Watch key)) = reader.Sessions (Some key)
reader_of (Some task.Storage) = reader.Storage
reader_of other = reader.Sessions None

-- what a script says, where a search of such a key is kept beside its sessions, or none is: beside
-- one it names one session fewer at most
abbrev pub parsed_with : Option Key → List ℕ → Result (List NamedLine) ScriptFault
parsed_with None script = parsed script
parsed_with (Some key) script = parsed_beside script

-- a storage's script has calls, and no lines of sessions
abbrev pub without_lines : Result (List Call) ScriptFault → Result (List NamedLine) ScriptFault
without_lines (Ok calls) = Ok []
without_lines (Err fault) = Err fault

-- the lines of sessions that a script has, or its fault
abbrev pub parsed_by : Reader → List ℕ → Result (List NamedLine) ScriptFault
parsed_by (reader.Sessions search) script = parsed_with search script
parsed_by reader.Storage script = without_lines (storage.parsed script)

-- the same for a task
abbrev pub parsed_for : Option Task → List ℕ → Result (List NamedLine) ScriptFault
parsed_for t script = parsed_by (reader_of t) script

-- the task that reads a script for it
abbrev pub script_task : Reader → Task
script_task (reader.Sessions None) = task.Run
script_task (reader.Sessions (Some key)) = task.Watch key
script_task reader.Storage = task.Storage

-- ---- lines

-- The lines that a task answers: those of a good script, which the source has to tell, or generated
-- ones.
abbrev pub Answers : Option Task → Type 0 → Result (List NamedLine) ScriptFault → List NamedLine
    → Type 0
Answers (Some task.Run) told read lines = told × (read ≡ Ok lines)
Answers (Some (task.Watch key)) told read lines = told × (read ≡ Ok lines)
Answers (Some (task.Generate load)) told read lines = lines ≡ generated_by load
Answers other told read lines = ⊥

-- The task comes to its folder: it needs no script, or has a good one, which the source has to
-- tell.
abbrev pub Reaches : Option Task → Type 0 → Result (List NamedLine) ScriptFault → Type 0
Reaches (Some task.Run) told read = told × (lines : List NamedLine) × (read ≡ Ok lines)
Reaches (Some (task.Watch key)) told read = told × (lines : List NamedLine) × (read ≡ Ok lines)
Reaches (Some (task.Generate load)) told read = ⊤
Reaches (Some (task.Resync client)) told read = ⊤
Reaches (Some task.Storage) told read = told × (lines : List NamedLine) × (read ≡ Ok lines)
Reaches other told read = ⊥

-- the load that a task generates
abbrev pub load_in : Option Task → Option Load
load_in (Some (task.Generate load)) = Some load
load_in other = None

-- a script is read, and its replies are written, with what a search finds or without, or the answers
-- of a storage
abbrev pub HasScript : Option Task → Type 0
HasScript (Some task.Run) = ⊤
HasScript (Some (task.Watch key)) = ⊤
HasScript (Some task.Storage) = ⊤
HasScript other = ⊥

-- what an output that tells has of the replies alone: those to a script, where no search is kept
abbrev pub RepliesTold : Option Task → Type 0 → Type 0
RepliesTold (Some task.Run) told = told
RepliesTold other told = ⊥

-- an output so, by its replies alone
abbrev pub replies_of : Option Task → Output → Output
replies_of t out = record out { told = RepliesTold t out.told }

-- lines are answered, and nothing but their replies is written before the last lines
abbrev pub HasReplies : Option Task → Type 0
HasReplies (Some task.Run) = ⊤
HasReplies (Some (task.Generate load)) = ⊤
HasReplies other = ⊥

-- a mailbox is opened or made where lines are answered, or a client with an older state, and a
-- storage where its calls are
abbrev pub Opens : Option Task → Type 0
Opens (Some task.Run) = ⊤
Opens (Some (task.Watch key)) = ⊤
Opens (Some (task.Generate load)) = ⊤
Opens (Some (task.Resync client)) = ⊤
Opens (Some task.Storage) = ⊤
Opens other = ⊥

-- something is written before the last line: replies to a script, the answers of a storage, or what
-- a client hears
abbrev pub HasAnswers : Option Task → Type 0
HasAnswers (Some task.Run) = ⊤
HasAnswers (Some (task.Watch key)) = ⊤
HasAnswers (Some (task.Resync client)) = ⊤
HasAnswers (Some task.Storage) = ⊤
HasAnswers other = ⊥

-- Each end is of its tasks: the words ask for nothing only where there is none, a rebuild finds no
-- fault in its folder, only a script that is read may be refused, and only what is written before
-- the last line may fail there. Memory may run out before it is known whether there is one.
abbrev pub EndsBy : Option Task → End → Type 0
EndsBy t (end.Answered mark groups loaded) = Opens t
EndsBy t (end.Rebuilt kept skipped) = t ≡ Some task.Rebuild
EndsBy t end.Usage = t ≡ None
EndsBy t (end.Unopened f) = IsSome t × (IsFault f → Opens t)
EndsBy t end.NoMemory = ⊤
EndsBy t (end.Script fault) = HasScript t
EndsBy t (end.Source faults) = HasScript t
EndsBy t end.Sink = HasAnswers t
