-- What words ask for, by their form.
use Rattle.std.proofs.Common.{◌≡◌, ◌∙◌, ap, sym, subst, ℕ, List}
use Rattle.std.specs.Prelude.{None, Option, Some}
use Rattle.dv_formats.specs.Parsing.{parsed}
use Rattle.dv_maildrop.specs.Scripts.{script_commands}
use Rattle.dv_cli.specs.Tasks.{parsed_for}
use Rattle.dv_cli.specs.Words.{task_of}
use Rattle.dv_cli.specs.declared.words.Task.{Task}
use Rattle.dv_cli.specs.declared.words.Task.TheVariants as task
use Rattle.dv_program.specs.Forms.{form_of, read_by, read_in, task_by, task_in, without_commands}
use Rattle.dv_program.specs.declared.form.Form.{Form}
use Rattle.dv_program.specs.declared.form.Form.TheVariants as form

-- ---- they are of one form

abbrev IsSerial : Form → Type 0
IsSerial form.Serial = Unit {0}
IsSerial form.Threads = ⊥
IsSerial form.Pop3 = ⊥

abbrev IsThreads : Form → Type 0
IsThreads form.Serial = ⊥
IsThreads form.Threads = Unit {0}
IsThreads form.Pop3 = ⊥

pub serial_not_threads : (f : Form) → f ≡ form.Serial → f ≡ form.Threads → ⊥
serial_not_threads f serial threads = subst IsSerial (sym serial ∙ threads) tt

pub serial_not_pop3 : (f : Form) → f ≡ form.Serial → f ≡ form.Pop3 → ⊥
serial_not_pop3 f serial pop3 = subst IsSerial (sym serial ∙ pop3) tt

pub threads_not_pop3 : (f : Form) → f ≡ form.Threads → f ≡ form.Pop3 → ⊥
threads_not_pop3 f threads pop3 = subst IsThreads (sym threads ∙ pop3) tt

-- ---- their task

pub serial_task : (words : List (List ℕ)) → form_of words ≡ form.Serial → task_by words ≡ task_of words
serial_task words is = ap (λ (f : Form). task_in f words) is

pub threads_task : (words : List (List ℕ)) → form_of words ≡ form.Threads → task_by words ≡ Some task.Run
threads_task words is = ap (λ (f : Form). task_in f words) is

pub pop3_task : (words : List (List ℕ)) → form_of words ≡ form.Pop3 → task_by words ≡ Some task.Run
pop3_task words is = ap (λ (f : Form). task_in f words) is

-- a script that is served is asked for
abbrev IsSome : Option Task → Type 0
IsSome (Some t) = Unit {0}
IsSome None = ⊥

pub run_asks : (words : List (List ℕ)) → task_by words ≡ Some task.Run → task_by words ≡ None → ⊥
run_asks words is none = subst IsSome (sym is ∙ none) tt

-- ---- what their script says

pub serial_read : (words : List (List ℕ)) (script : List ℕ) → form_of words ≡ form.Serial → read_by words script ≡ parsed_for (task_of words) script
serial_read words script is = ap (λ (f : Form). read_in f words script) is

pub threads_read : (words : List (List ℕ)) (script : List ℕ) → form_of words ≡ form.Threads → read_by words script ≡ parsed script
threads_read words script is = ap (λ (f : Form). read_in f words script) is

pub pop3_read : (words : List (List ℕ)) (script : List ℕ) → form_of words ≡ form.Pop3 → read_by words script ≡ without_commands (script_commands script)
pop3_read words script is = ap (λ (f : Form). read_in f words script) is
