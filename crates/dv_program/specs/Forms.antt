-- What the words of a run ask for, and in which form it is done.
use Rattle.std.specs.Prelude.{ℕ, List, [], ◌∷◌, Option, Some, None, Result, Ok, Err, bytes_eq, codes, if◌then◌else◌}
use Rattle.dv_formats.specs.Parsing.{ScriptFault}
use Rattle.dv_formats.specs.Scripts.{NamedLine}
use Rattle.dv_maildrop.specs.declared.types.PopLine.{PopLine}
use Rattle.dv_maildrop.specs.Scripts.{script_commands}
use Rattle.dv_cli.specs.Tasks.{parsed_for}
use Rattle.dv_cli.specs.Words.{task_of}
use Rattle.dv_cli.specs.declared.words.Task.{Task}
use Rattle.dv_cli.specs.declared.words.Task.TheVariants as task
use Rattle.dv_program.specs.declared.form.Form.{Form}
use Rattle.dv_program.specs.declared.form.Form.TheVariants as form

-- by `run --threads` the sessions of a script are served in threads, by `pop3` one POP3 session is
abbrev pub form_of : List (List ℕ) → Form
form_of (word ∷ flag ∷ []) =
    if bytes_eq word (codes "run")
    then (if bytes_eq flag (codes "--threads") then form.Threads else form.Serial)
    else form.Serial
form_of (word ∷ []) = if bytes_eq word (codes "pop3") then form.Pop3 else form.Serial
form_of words = form.Serial

-- what words of this form ask for: in threads and by POP3 it is what `run` asks for, that a script
-- is answered over the folder
abbrev pub task_in : Form → List (List ℕ) → Option Task
task_in form.Serial words = task_of words
task_in form.Threads words = Some task.Run
task_in form.Pop3 words = Some task.Run

-- what they ask for
abbrev pub task_by : List (List ℕ) → Option Task
task_by words = task_in (form_of words) words

-- ---- the script

-- the lines of a POP3 session name no session, and their script has one fault alone
abbrev pub without_commands : Option (List PopLine) → Result (List NamedLine) ScriptFault
without_commands (Some lines) = Ok []
without_commands None = Err ScriptFault.TooLong

-- the lines of sessions that a script has, or its fault, by words of this form
abbrev pub read_in : Form → List (List ℕ) → List ℕ → Result (List NamedLine) ScriptFault
read_in form.Serial words script = parsed_for (task_in form.Serial words) script
read_in form.Threads words script = parsed_for (task_in form.Threads words) script
read_in form.Pop3 words script = without_commands (script_commands script)

-- the same by these words
abbrev pub read_by : List (List ℕ) → List ℕ → Result (List NamedLine) ScriptFault
read_by words script = read_in (form_of words) words script
