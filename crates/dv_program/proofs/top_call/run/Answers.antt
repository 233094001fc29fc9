use Rattle.std.proofs.Common.{◌≡◌, ◌∙◌, sym, subst, List, ℕ, map}
use Rattle.std.specs.Prelude.{Err, Option, Result, Some, string_bytes}
use Rattle.dv_formats.specs.Parsing.{ScriptFault, parsed}
use Rattle.dv_formats.specs.Scripts.{NamedLine}
use Rattle.dv_maildrop.specs.Scripts.{script_commands}
use Rattle.dv_beginning.specs.Causes.{HasFault}
use Rattle.dv_cli.specs.declared.words.Task.{Task}
use Rattle.dv_cli.specs.declared.words.Task.TheVariants as task
use Rattle.dv_cli.specs.Causes.{Counts, HasCauses, counts_of}
use Rattle.dv_cli.specs.Tasks.{HasScript, Reaches, parsed_for}
use Rattle.dv_cli.specs.Told.{IsToldBy}
use Rattle.dv_cli.specs.Words.{task_of}
use Rattle.dv_notices.specs.declared.telling.Told.{Told}
use Rattle.dv_program.specs.Forms.{form_of, read_by, task_by, without_commands}
use Rattle.dv_program.specs.Moments.{moment_of, outside_of}
use Rattle.dv_program.specs.Readings.{TakesIn}
use Rattle.dv_program.specs.Serial.{RunsSerially}
use Rattle.dv_program.specs.declared.form.Form.{Form}
use Rattle.dv_program.specs.declared.form.Form.TheVariants as form
use Rattle.dv_program.proofs.Forms.{pop3_read, pop3_task, run_asks, serial_not_pop3, serial_not_threads, serial_read, serial_task, threads_not_pop3, threads_read, threads_task}
use Rattle.dv_program.proofs.top_call.run.Given as given
use Rattle.dv_program.proofs.top_call.run.Goals as goal

-- the causes of a task's status, by what its script says
abbrev Causes : Option Task → Result (List NamedLine) ScriptFault → ℕ → Told → Counts → Counts → Type 0 → Type 0 → Type 0
Causes t read status told before now finds reads =
    IsToldBy t status told × HasCauses status t before now finds (reads → (fault : ScriptFault) × (read ≡ Err fault))

-- of words whose task and reading are these
causes_by : (t other : Option Task) (read said : Result (List NamedLine) ScriptFault) (status : ℕ) (told : Told) (before now : Counts) (finds reads : Type 0)
    → t ≡ other → read ≡ said → Causes other said status told before now finds reads → Causes t read status told before now finds reads
causes_by t other read said status told before now finds reads same alike causes =
    subst (λ (x : Option Task). Causes x read status told before now finds reads) (sym same)
    (subst (λ (r : Result (List NamedLine) ScriptFault). Causes other r status told before now finds reads) (sym alike) causes)

reaches_by : (t other : Option Task) (told : Type 0) (read said : Result (List NamedLine) ScriptFault) → t ≡ other → read ≡ said → Reaches t told read → Reaches other told said
reaches_by t other told read said same alike reaches =
    subst (λ (x : Option Task). Reaches x told said) same (subst (λ (r : Result (List NamedLine) ScriptFault). Reaches t told r) alike reaches)

-- ---- one thing after another

module _ (g : given.Over) (c : goal.After-run g) where
  abbrev words : List (List ℕ)
  words = map string_bytes c.args.words.now

  abbrev script : List ℕ
  script = g.I.Source.sees.left c.args.script.now

  is_serial : form_of words ≡ form.Serial
  is_serial = sym c.form_of.ensures ∙ c.in-Serial.is

  same : task_by words ≡ task_of words
  same = serial_task words is_serial

  alike : read_by words script ≡ parsed_for (task_of words) script
  alike = serial_read words script is_serial

pub returns-in-Serial-clause-serial : goal.returns-in-Serial-clause-serial
returns-in-Serial-clause-serial g c = λ serial.
    let S = g.S.Shelf in
    let I = g.I.Source in
    let O = g.O.Sink in
    let C = g.C.Clock in
    let o = c.run.result in
    subst (λ (t : Option Task). RunsSerially (outside_of S.sees I.sees O.sees C.sees) t (moment_of c.args.shelf c.args.script.now c.args.out.now c.args.clock)
    (moment_of o.shelf c.run.new.script c.run.new.out o.clock) o.status o.told) (sym (same g c))
    (record {
      runs = c.run.ensures.runs;
      rebuilds = c.run.ensures.rebuilds;
      resyncs = c.run.ensures.resyncs;
      watches = c.run.ensures.watches;
      stores = c.run.ensures.stores;
      output = c.run.ensures.output;
      readings = c.run.ensures.readings;
    })

pub returns-in-Serial-clause-threads : goal.returns-in-Serial-clause-threads
returns-in-Serial-clause-threads g c = λ threads. absurd (serial_not_threads (form_of (words g c)) (is_serial g c) threads)

pub returns-in-Serial-clause-pops : goal.returns-in-Serial-clause-pops
returns-in-Serial-clause-pops g c = λ pop3. absurd (serial_not_pop3 (form_of (words g c)) (is_serial g c) pop3)

pub returns-in-Serial-clause-usage : goal.returns-in-Serial-clause-usage
returns-in-Serial-clause-usage g c = λ none. c.run.ensures.usage (sym (same g c) ∙ none)

pub returns-in-Serial-clause-refused : goal.returns-in-Serial-clause-refused
returns-in-Serial-clause-refused g c = λ has script_tells fault bad.
    c.run.ensures.refused (subst HasScript (same g c) has) script_tells fault (sym (alike g c) ∙ bad)

pub returns-in-Serial-clause-causes : goal.returns-in-Serial-clause-causes
returns-in-Serial-clause-causes g c =
    let S = g.S.Shelf in
    let I = g.I.Source in
    let O = g.O.Sink in
    let o = c.run.result in
    causes_by (task_by (words g c)) (task_of (words g c)) (read_by (words g c) (script g c)) (parsed_for (task_of (words g c)) (script g c)) o.status o.told
    (counts_of (S.sees.fault_count c.args.shelf) (I.sees.fault_count c.args.script.now) (O.sees.fault_count c.args.out.now))
    (counts_of (S.sees.fault_count o.shelf) (I.sees.fault_count c.run.new.script) (O.sees.fault_count c.run.new.out))
    (S.sees.tells → HasFault (S.sees.files c.args.shelf)) I.sees.tells (same g c) (alike g c) c.run.ensures.causes

pub returns-in-Serial-clause-complete : goal.returns-in-Serial-clause-complete
returns-in-Serial-clause-complete g c = λ tells reaches.
    c.run.ensures.complete tells
    (reaches_by (task_by (words g c)) (task_of (words g c)) g.I.Source.sees.tells (read_by (words g c) (script g c)) (parsed_for (task_of (words g c)) (script g c)) (same g c) (alike g c) reaches)

pub returns-in-Serial-clause-bound : goal.returns-in-Serial-clause-bound
returns-in-Serial-clause-bound g c = (c.run.ensures.bound.0, λ none. c.run.ensures.bound.1 (λ has. none (subst HasScript (sym (same g c)) has)))

pub returns-in-Serial-clause-readings : goal.returns-in-Serial-clause-readings
returns-in-Serial-clause-readings g c = λ tells.
    let C = g.C.Clock in
    subst (λ (f : Form). TakesIn f c.run.result.status (C.sees.upcoming c.args.clock) (C.sees.upcoming c.run.result.clock)) (sym (is_serial g c))
    (c.run.ensures.readings tells).statuses

-- ---- in threads

module _ (g : given.Over) (c : goal.After-run_threads g) where
  abbrev words_threads : List (List ℕ)
  words_threads = map string_bytes c.args.words.now

  abbrev script_threads : List ℕ
  script_threads = g.I.Source.sees.left c.args.script.now

  is_threads : form_of words_threads ≡ form.Threads
  is_threads = sym c.form_of.ensures ∙ c.in-Threads.is

  task_threads : task_by words_threads ≡ Some task.Run
  task_threads = threads_task words_threads is_threads

  read_threads : read_by words_threads script_threads ≡ parsed script_threads
  read_threads = threads_read words_threads script_threads is_threads

pub returns-in-Threads-clause-serial : goal.returns-in-Threads-clause-serial
returns-in-Threads-clause-serial g c = λ serial. absurd (serial_not_threads (form_of (words_threads g c)) serial (is_threads g c))

pub returns-in-Threads-clause-pops : goal.returns-in-Threads-clause-pops
returns-in-Threads-clause-pops g c = λ pop3. absurd (threads_not_pop3 (form_of (words_threads g c)) (is_threads g c) pop3)

pub returns-in-Threads-clause-threads : goal.returns-in-Threads-clause-threads
returns-in-Threads-clause-threads g c = λ threads. c.run_threads.ensures.threads

pub returns-in-Threads-clause-usage : goal.returns-in-Threads-clause-usage
returns-in-Threads-clause-usage g c = λ none. absurd (run_asks (words_threads g c) (task_threads g c) none)

pub returns-in-Threads-clause-refused : goal.returns-in-Threads-clause-refused
returns-in-Threads-clause-refused g c = λ has script_tells fault bad. c.run_threads.ensures.refused script_tells fault (sym (read_threads g c) ∙ bad)

pub returns-in-Threads-clause-causes : goal.returns-in-Threads-clause-causes
returns-in-Threads-clause-causes g c =
    let S = g.S.Shelf in
    let I = g.I.Source in
    let O = g.O.Sink in
    let o = c.run_threads.result in
    causes_by (task_by (words_threads g c)) (Some task.Run) (read_by (words_threads g c) (script_threads g c)) (parsed (script_threads g c)) o.status o.told
    (counts_of (S.sees.fault_count c.args.shelf) (I.sees.fault_count c.args.script.now) (O.sees.fault_count c.args.out.now))
    (counts_of (S.sees.fault_count o.shelf) (I.sees.fault_count c.run_threads.new.script) (O.sees.fault_count c.run_threads.new.out))
    (S.sees.tells → HasFault (S.sees.files c.args.shelf)) I.sees.tells (task_threads g c) (read_threads g c) c.run_threads.ensures.causes

pub returns-in-Threads-clause-complete : goal.returns-in-Threads-clause-complete
returns-in-Threads-clause-complete g c = λ tells reaches.
    c.run_threads.ensures.complete tells
    (reaches_by (task_by (words_threads g c)) (Some task.Run) g.I.Source.sees.tells (read_by (words_threads g c) (script_threads g c)) (parsed (script_threads g c)) (task_threads g c) (read_threads g c) reaches)

pub returns-in-Threads-clause-bound : goal.returns-in-Threads-clause-bound
returns-in-Threads-clause-bound g c = (c.run_threads.ensures.bound, λ none. absurd (none (subst HasScript (sym (task_threads g c)) tt)))

pub returns-in-Threads-clause-readings : goal.returns-in-Threads-clause-readings
returns-in-Threads-clause-readings g c = λ tells.
    let C = g.C.Clock in
    subst (λ (f : Form). TakesIn f c.run_threads.result.status (C.sees.upcoming c.args.clock) (C.sees.upcoming c.run_threads.result.clock)) (sym (is_threads g c))
    (c.run_threads.ensures.readings tells)

-- ---- by a POP3 session

module _ (g : given.Over) (c : goal.After-run_pop3 g) where
  abbrev words_pop3 : List (List ℕ)
  words_pop3 = map string_bytes c.args.words.now

  abbrev script_pop3 : List ℕ
  script_pop3 = g.I.Source.sees.left c.args.script.now

  is_pop3 : form_of words_pop3 ≡ form.Pop3
  is_pop3 = sym c.form_of.ensures ∙ c.in-Pop3.is

  task_pop3 : task_by words_pop3 ≡ Some task.Run
  task_pop3 = pop3_task words_pop3 is_pop3

  read_pop3 : read_by words_pop3 script_pop3 ≡ without_commands (script_commands script_pop3)
  read_pop3 = pop3_read words_pop3 script_pop3 is_pop3

pub returns-in-Pop3-clause-serial : goal.returns-in-Pop3-clause-serial
returns-in-Pop3-clause-serial g c = λ serial. absurd (serial_not_pop3 (form_of (words_pop3 g c)) serial (is_pop3 g c))

pub returns-in-Pop3-clause-threads : goal.returns-in-Pop3-clause-threads
returns-in-Pop3-clause-threads g c = λ threads. absurd (threads_not_pop3 (form_of (words_pop3 g c)) threads (is_pop3 g c))

pub returns-in-Pop3-clause-pops : goal.returns-in-Pop3-clause-pops
returns-in-Pop3-clause-pops g c = λ pop3. c.run_pop3.ensures.pops

pub returns-in-Pop3-clause-usage : goal.returns-in-Pop3-clause-usage
returns-in-Pop3-clause-usage g c = λ none. absurd (run_asks (words_pop3 g c) (task_pop3 g c) none)

pub returns-in-Pop3-clause-refused : goal.returns-in-Pop3-clause-refused
returns-in-Pop3-clause-refused g c = λ has script_tells fault bad. c.run_pop3.ensures.refused script_tells fault (sym (read_pop3 g c) ∙ bad)

pub returns-in-Pop3-clause-causes : goal.returns-in-Pop3-clause-causes
returns-in-Pop3-clause-causes g c =
    let S = g.S.Shelf in
    let I = g.I.Source in
    let O = g.O.Sink in
    let o = c.run_pop3.result in
    causes_by (task_by (words_pop3 g c)) (Some task.Run) (read_by (words_pop3 g c) (script_pop3 g c)) (without_commands (script_commands (script_pop3 g c))) o.status o.told
    (counts_of (S.sees.fault_count c.args.shelf) (I.sees.fault_count c.args.script.now) (O.sees.fault_count c.args.out.now))
    (counts_of (S.sees.fault_count o.shelf) (I.sees.fault_count c.run_pop3.new.script) (O.sees.fault_count c.run_pop3.new.out))
    (S.sees.tells → HasFault (S.sees.files c.args.shelf)) I.sees.tells (task_pop3 g c) (read_pop3 g c) c.run_pop3.ensures.causes

pub returns-in-Pop3-clause-complete : goal.returns-in-Pop3-clause-complete
returns-in-Pop3-clause-complete g c = λ tells reaches.
    c.run_pop3.ensures.complete tells
    (reaches_by (task_by (words_pop3 g c)) (Some task.Run) g.I.Source.sees.tells (read_by (words_pop3 g c) (script_pop3 g c)) (without_commands (script_commands (script_pop3 g c))) (task_pop3 g c) (read_pop3 g c) reaches)

pub returns-in-Pop3-clause-bound : goal.returns-in-Pop3-clause-bound
returns-in-Pop3-clause-bound g c = (c.run_pop3.ensures.bound, λ none. absurd (none (subst HasScript (sym (task_pop3 g c)) tt)))

pub returns-in-Pop3-clause-readings : goal.returns-in-Pop3-clause-readings
returns-in-Pop3-clause-readings g c = λ tells.
    let C = g.C.Clock in
    subst (λ (f : Form). TakesIn f c.run_pop3.result.status (C.sees.upcoming c.args.clock) (C.sees.upcoming c.run_pop3.result.clock)) (sym (is_pop3 g c))
    (c.run_pop3.ensures.readings tells)
