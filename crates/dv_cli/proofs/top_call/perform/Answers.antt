use Rattle.std.proofs.Common.{◌≡◌, ◌∙◌, inl, inr, ⊎_elim, ap, sym, subst, refl, List, length, map}
use Rattle.std.specs.Prelude.{Err, None, Option, Some, string_bytes}
use Rattle.dv_model.specs.declared.types.Key.{Key}
use Rattle.dv_formats.specs.Scripts.{NamedLine}
use Rattle.dv_qresync.specs.declared.types.Old.{Old}
use Rattle.dv_beginning.proofs.Readings.{takes_none}
use Rattle.dv_cli.specs.declared.words.Task.{Task}
use Rattle.dv_cli.specs.declared.words.Task.TheVariants as task
use Rattle.dv_serving.specs.Outputs.{output_of, output_with}
use Rattle.dv_serving.specs.Readings.{TakesUpTo}
use Rattle.dv_cli.specs.Causes.{TellsScript, most_readings}
use Rattle.dv_cli.specs.Resyncing.{AnswersClient}
use Rattle.dv_cli.specs.Spans.{times_from}
use Rattle.dv_serving.specs.Faults.{faults_of}
use Rattle.dv_serving.proofs.Readings.{any_readings, readings_give}
use Rattle.dv_cli.specs.Tasks.{EndsBy, HasScript, generated_by, parsed_for}
use Rattle.dv_cli.specs.declared.scripts.Reader.{Reader}
use Rattle.dv_cli.specs.declared.scripts.Reader.TheVariants as reader
use Rattle.dv_cli.specs.Scripts.{MayBeginBy, RunsScript}
use Rattle.dv_cli.specs.Wholes.{RunsTask}
use Rattle.dv_cli.specs.Words.{IsResync, task_of}
use Rattle.dv_cli.proofs.Reached.{folder_takes}
use Rattle.dv_cli.proofs.Takes.{run_takes}
use Rattle.dv_cli.proofs.Untold.{ran}
use Rattle.dv_cli.proofs.ScriptRuns.{unread_runs}
use Rattle.dv_cli.proofs.Tasked.{client_one, lacks, lacks_script, lacks_usage, reader_one, seen}
use Rattle.dv_cli.proofs.Watched.{beside_runs}
use Rattle.dv_cli.proofs.top_call.perform.Goals as goal

-- ---- a script is run

pub returns-in-Run-clause-runs : goal.returns-in-Run-clause-runs
returns-in-Run-clause-runs g c = λ tells settled is_true lines answers.
    let S = g.S.Shelf in
    let C = g.C.Clock in
    let O = g.O.Sink in
    let o = c.run_script.result in
    let t = task_of (map string_bytes c.args.words.now) in
    let run : t ≡ Some task.Run = sym c.in-Ok.ensures.is ∙ c.in-Some.is ∙ ap Some c.in-Run.is in
    let has = seen t g.I.Source.sees.tells (g.I.Source.sees.left c.args.script.now) lines (Some task.Run) run answers in
    readings_give (c.run_script.ensures.runs tells has.0 settled is_true) (λ clock small told runs.
    subst (λ (x : Option Task). RunsTask S.sees (times_from C.sees clock o.clock) (faults_of S.sees c.args.shelf o.shelf)
    x lines o.end (output_of O.sees c.args.out.now c.run_script.new.out) c.args.shelf o.shelf) (sym run)
    (record { runs = runs lines has.1; loads = λ none. absurd (none tt); silent = λ none. absurd (none tt) }))

pub returns-in-Run-clause-scripts : goal.returns-in-Run-clause-scripts
returns-in-Run-clause-scripts g c = λ by is tells script_tells settled may.
    let S = g.S.Shelf in
    let C = g.C.Clock in
    let O = g.O.Sink in
    let o = c.run_script.result in
    let t = task_of (map string_bytes c.args.words.now) in
    let run : t ≡ Some task.Run = sym c.in-Ok.ensures.is ∙ c.in-Some.is ∙ ap Some c.in-Run.is in
    let one = reader_one t (reader.Sessions None) by run is in
    readings_give (c.run_script.ensures.runs tells script_tells settled (subst (λ (r : Reader). MayBeginBy r (S.sees.files c.args.shelf)) (sym one) may)) (λ clock small told runs.
    subst (λ (r : Reader). RunsScript r (g.I.Source.sees.left c.args.script.now) S.sees (times_from C.sees clock o.clock) (faults_of S.sees c.args.shelf o.shelf)
    o.end (output_of O.sees c.args.out.now c.run_script.new.out) c.args.shelf o.shelf) one runs)

pub returns-in-Run-clause-refused : goal.returns-in-Run-clause-refused
returns-in-Run-clause-refused g c = λ has script_tells fault bad.
    let t = task_of (map string_bytes c.args.words.now) in
    let run : t ≡ Some task.Run = sym c.in-Ok.ensures.is ∙ c.in-Some.is ∙ ap Some c.in-Run.is in
    let refused = c.run_script.ensures.refused script_tells fault (subst (λ (x : Option Task). parsed_for x (g.I.Source.sees.left c.args.script.now) ≡ Err fault) run bad) in
    (refused.1, refused.0, refused.2)

pub returns-in-Run-clause-found : goal.returns-in-Run-clause-found
returns-in-Run-clause-found g c = (
  c.run_script.ensures.found.0,
  λ has script_tells.
      let t = task_of (map string_bytes c.args.words.now) in
      let run : t ≡ Some task.Run = sym c.in-Ok.ensures.is ∙ c.in-Some.is ∙ ap Some c.in-Run.is in
      let says = c.run_script.ensures.found.1 script_tells in
      (subst (λ (x : Option Task). TellsScript (parsed_for x (g.I.Source.sees.left c.args.script.now)) c.run_script.result.end) (sym run) says.0, says.1),
)

pub returns-in-Run-clause-cause : goal.returns-in-Run-clause-cause
returns-in-Run-clause-cause g c =
    let t = task_of (map string_bytes c.args.words.now) in
    let run : t ≡ Some task.Run = sym c.in-Ok.ensures.is ∙ c.in-Some.is ∙ ap Some c.in-Run.is in
    (subst (λ (x : Option Task). EndsBy x c.run_script.result.end) (sym run) c.run_script.ensures.ends.0, c.run_script.ensures.cause, c.run_script.ensures.ends.1)

pub returns-in-Run-clause-bound : goal.returns-in-Run-clause-bound
returns-in-Run-clause-bound g c =
    let t = task_of (map string_bytes c.args.words.now) in
    let run : t ≡ Some task.Run = sym c.in-Ok.ensures.is ∙ c.in-Some.is ∙ ap Some c.in-Run.is in
    (c.run_script.ensures.bound, λ none. absurd (none (subst HasScript (sym run) tt)))

pub returns-in-Run-clause-readings : goal.returns-in-Run-clause-readings
returns-in-Run-clause-readings g c = λ clock_tells.
    let t = task_of (map string_bytes c.args.words.now) in
    let run : t ≡ Some task.Run = sym c.in-Ok.ensures.is ∙ c.in-Some.is ∙ ap Some c.in-Run.is in
    record {
      lines = λ ls answers.
          let has = seen t g.I.Source.sees.tells (g.I.Source.sees.left c.args.script.now) ls (Some task.Run) run answers in
          (c.run_script.ensures.readings clock_tells).1 has.0 ls has.1;
      client = λ client is. absurd (subst IsResync (sym is ∙ run) tt);
      ends = (c.run_script.ensures.readings clock_tells).0;
    }

-- ---- the folder is rebuilt

pub returns-in-Rebuild-clause-cause : goal.returns-in-Rebuild-clause-cause
returns-in-Rebuild-clause-cause g c =
    let t = task_of (map string_bytes c.args.words.now) in
    let rebuild : t ≡ Some task.Rebuild = sym c.in-Ok.ensures.is ∙ c.in-Some.is ∙ ap Some c.in-Rebuild.is in (
      subst (λ (x : Option Task). EndsBy x c.run_rebuild.result.end) (sym rebuild) c.run_rebuild.ensures.ends.0,
      c.run_rebuild.ensures.cause (g.I.Source.sees.fault_count c.args.script.now) (g.O.Sink.sees.fault_count c.args.out.now),
      c.run_rebuild.ensures.ends.1,
    )

-- ---- a generated script is run, and no reply is written

pub returns-in-Generate-clause-runs : goal.returns-in-Generate-clause-runs
returns-in-Generate-clause-runs g c = λ tells settled is_true lines answers.
    let S = g.S.Shelf in
    let C = g.C.Clock in
    let O = g.O.Sink in
    let o = c.run_load.result in
    let taken = O.sees.taken c.args.out.now in
    let t = task_of (map string_bytes c.args.words.now) in
    let load = c.in-Generate.load in
    let is : t ≡ Some (task.Generate load) = sym c.in-Ok.ensures.is ∙ c.in-Some.is ∙ ap Some c.in-Generate.is in
    let same : lines ≡ generated_by load = seen t g.I.Source.sees.tells (g.I.Source.sees.left c.args.script.now) lines (Some (task.Generate load)) is answers in
    readings_give (c.run_load.ensures.runs tells settled is_true) (λ clock small told runs.
    let run =
    ran S.sees C.sees.tells clock (C.sees.upcoming o.clock) (S.sees.fault_count c.args.shelf) (S.sees.fault_count o.shelf) (Some load) (generated_by load) c.args.shelf o.shelf
    Rattle.std.proofs.Common.[] Rattle.std.proofs.Common.[] taken taken o.end runs in
    subst (λ (x : Option Task). RunsTask S.sees (times_from C.sees clock o.clock) (faults_of S.sees c.args.shelf o.shelf)
    x lines o.end (output_with O.sees.tells taken taken) c.args.shelf o.shelf) (sym is)
    (subst (λ (ls : List NamedLine). RunsTask S.sees (times_from C.sees clock o.clock) (faults_of S.sees c.args.shelf o.shelf)
    (Some (task.Generate load)) ls o.end (output_with O.sees.tells taken taken) c.args.shelf o.shelf) (sym same)
    (record { runs = inr run; loads = λ none. run; silent = λ none. refl })))

pub returns-in-Generate-clause-readings : goal.returns-in-Generate-clause-readings
returns-in-Generate-clause-readings g c = λ clock_tells.
    let t = task_of (map string_bytes c.args.words.now) in
    let load = c.in-Generate.load in
    let is : t ≡ Some (task.Generate load) = sym c.in-Ok.ensures.is ∙ c.in-Some.is ∙ ap Some c.in-Generate.is in
    let old = g.C.Clock.sees.upcoming c.args.clock in
    let new = g.C.Clock.sees.upcoming c.run_load.result.clock in
    let reads = c.run_load.ensures.readings clock_tells in
    record {
      lines = λ ls answers.
          let same : ls ≡ generated_by load = seen t g.I.Source.sees.tells (g.I.Source.sees.left c.args.script.now) ls (Some (task.Generate load)) is answers in
          subst (λ (l : List NamedLine). TakesUpTo (most_readings (length l)) old new) (sym same) (run_takes (length (generated_by load)) old new c.run_load.result.end reads);
      client = λ client resync. absurd (subst IsResync (sym resync ∙ is) tt);
      ends = folder_takes _ _ 0 0 _ _ _ c.run_load.result.end c.run_load.ensures.cause.cause reads;
    }

-- ---- a client is answered

pub returns-in-Resync-clause-resyncs : goal.returns-in-Resync-clause-resyncs
returns-in-Resync-clause-resyncs g c = λ client is tells settled is_true.
    let S = g.S.Shelf in
    let C = g.C.Clock in
    let O = g.O.Sink in
    let o = c.run_resync.result in
    let t = task_of (map string_bytes c.args.words.now) in
    let of : t ≡ Some (task.Resync c.in-Resync.client) = sym c.in-Ok.ensures.is ∙ c.in-Some.is ∙ ap Some c.in-Resync.is in
    readings_give (c.run_resync.ensures.answers tells settled is_true) (λ clock small told answers.
    inr (subst (λ (x : Old). AnswersClient S.sees (times_from C.sees clock o.clock) x o.end (output_of O.sees c.args.out.now c.run_resync.new.out) c.args.shelf o.shelf)
    (client_one t c.in-Resync.client client of is) answers))

-- ---- a script is run beside a kept search

pub returns-in-Watch-clause-runs : goal.returns-in-Watch-clause-runs
returns-in-Watch-clause-runs g c = λ tells settled is_true lines answers.
    let S = g.S.Shelf in
    let C = g.C.Clock in
    let O = g.O.Sink in
    let o = c.run_script-in-Watch.result in
    let t = task_of (map string_bytes c.args.words.now) in
    let key = c.in-Watch.key in
    let watch : t ≡ Some (task.Watch key) = sym c.in-Ok.ensures.is ∙ c.in-Some.is ∙ ap Some c.in-Watch.is in
    let has = seen t g.I.Source.sees.tells (g.I.Source.sees.left c.args.script.now) lines (Some (task.Watch key)) watch answers in
    let out = output_of O.sees c.args.out.now c.run_script-in-Watch.new.out in
    readings_give (c.run_script-in-Watch.ensures.runs tells has.0 settled is_true) (λ clock small told runs.
    subst (λ (x : Option Task). RunsTask S.sees (times_from C.sees clock o.clock) (faults_of S.sees c.args.shelf o.shelf)
    x lines o.end out c.args.shelf o.shelf) (sym watch)
    (record {
      runs = ⊎_elim (λ unread. inl unread)
          (λ served. inr (beside_runs S.sees (times_from C.sees clock o.clock) (faults_of S.sees c.args.shelf o.shelf) key lines out c.args.shelf o.shelf o.end served)) (runs lines has.1);
      loads = λ none. absurd (none tt);
      silent = λ none. absurd (none tt);
    }))

pub returns-in-Watch-clause-scripts : goal.returns-in-Watch-clause-scripts
returns-in-Watch-clause-scripts g c = λ by is tells script_tells settled may.
    let S = g.S.Shelf in
    let C = g.C.Clock in
    let O = g.O.Sink in
    let o = c.run_script-in-Watch.result in
    let t = task_of (map string_bytes c.args.words.now) in
    let key = c.in-Watch.key in
    let watch : t ≡ Some (task.Watch key) = sym c.in-Ok.ensures.is ∙ c.in-Some.is ∙ ap Some c.in-Watch.is in
    let one = reader_one t (reader.Sessions (Some key)) by watch is in
    readings_give (c.run_script-in-Watch.ensures.runs tells script_tells settled (subst (λ (r : Reader). MayBeginBy r (S.sees.files c.args.shelf)) (sym one) may)) (λ clock small told runs.
    subst (λ (r : Reader). RunsScript r (g.I.Source.sees.left c.args.script.now) S.sees (times_from C.sees clock o.clock) (faults_of S.sees c.args.shelf o.shelf)
    o.end (output_of O.sees c.args.out.now c.run_script-in-Watch.new.out) c.args.shelf o.shelf) one runs)

pub returns-in-Watch-clause-refused : goal.returns-in-Watch-clause-refused
returns-in-Watch-clause-refused g c = λ has script_tells fault bad.
    let t = task_of (map string_bytes c.args.words.now) in
    let watch : t ≡ Some (task.Watch c.in-Watch.key) = sym c.in-Ok.ensures.is ∙ c.in-Some.is ∙ ap Some c.in-Watch.is in
    let refused = c.run_script-in-Watch.ensures.refused script_tells fault (subst (λ (x : Option Task). parsed_for x (g.I.Source.sees.left c.args.script.now) ≡ Err fault) watch bad) in
    (refused.1, refused.0, refused.2)

pub returns-in-Watch-clause-found : goal.returns-in-Watch-clause-found
returns-in-Watch-clause-found g c = (
  c.run_script-in-Watch.ensures.found.0,
  λ has script_tells.
      let t = task_of (map string_bytes c.args.words.now) in
      let watch : t ≡ Some (task.Watch c.in-Watch.key) = sym c.in-Ok.ensures.is ∙ c.in-Some.is ∙ ap Some c.in-Watch.is in
      let says = c.run_script-in-Watch.ensures.found.1 script_tells in
      (subst (λ (x : Option Task). TellsScript (parsed_for x (g.I.Source.sees.left c.args.script.now)) c.run_script-in-Watch.result.end) (sym watch) says.0, says.1),
)

pub returns-in-Watch-clause-cause : goal.returns-in-Watch-clause-cause
returns-in-Watch-clause-cause g c =
    let t = task_of (map string_bytes c.args.words.now) in
    let watch : t ≡ Some (task.Watch c.in-Watch.key) = sym c.in-Ok.ensures.is ∙ c.in-Some.is ∙ ap Some c.in-Watch.is in
    (subst (λ (x : Option Task). EndsBy x c.run_script-in-Watch.result.end) (sym watch) c.run_script-in-Watch.ensures.ends.0, c.run_script-in-Watch.ensures.cause, c.run_script-in-Watch.ensures.ends.1)

pub returns-in-Watch-clause-bound : goal.returns-in-Watch-clause-bound
returns-in-Watch-clause-bound g c =
    let t = task_of (map string_bytes c.args.words.now) in
    let watch : t ≡ Some (task.Watch c.in-Watch.key) = sym c.in-Ok.ensures.is ∙ c.in-Some.is ∙ ap Some c.in-Watch.is in
    (c.run_script-in-Watch.ensures.bound, λ none. absurd (none (subst HasScript (sym watch) tt)))

pub returns-in-Watch-clause-readings : goal.returns-in-Watch-clause-readings
returns-in-Watch-clause-readings g c = λ clock_tells.
    let t = task_of (map string_bytes c.args.words.now) in
    let watch : t ≡ Some (task.Watch c.in-Watch.key) = sym c.in-Ok.ensures.is ∙ c.in-Some.is ∙ ap Some c.in-Watch.is in
    record {
      lines = λ ls answers.
          let has = seen t g.I.Source.sees.tells (g.I.Source.sees.left c.args.script.now) ls (Some (task.Watch c.in-Watch.key)) watch answers in
          (c.run_script-in-Watch.ensures.readings clock_tells).1 has.0 ls has.1;
      client = λ client is. absurd (subst IsResync (sym is ∙ watch) tt);
      ends = (c.run_script-in-Watch.ensures.readings clock_tells).0;
    }

-- ---- the calls of a script are answered by a storage

pub returns-in-Storage-clause-runs : goal.returns-in-Storage-clause-runs
returns-in-Storage-clause-runs g c = λ tells settled is_true lines answers.
    let t = task_of (map string_bytes c.args.words.now) in
    let store : t ≡ Some task.Storage = sym c.in-Ok.ensures.is ∙ c.in-Some.is ∙ ap Some c.in-Storage.is in
    absurd (seen t g.I.Source.sees.tells (g.I.Source.sees.left c.args.script.now) lines (Some task.Storage) store answers)

pub returns-in-Storage-clause-scripts : goal.returns-in-Storage-clause-scripts
returns-in-Storage-clause-scripts g c = λ by is tells script_tells settled may.
    let S = g.S.Shelf in
    let C = g.C.Clock in
    let O = g.O.Sink in
    let o = c.run_script-in-Storage.result in
    let t = task_of (map string_bytes c.args.words.now) in
    let store : t ≡ Some task.Storage = sym c.in-Ok.ensures.is ∙ c.in-Some.is ∙ ap Some c.in-Storage.is in
    let one = reader_one t reader.Storage by store is in
    readings_give (c.run_script-in-Storage.ensures.runs tells script_tells settled tt) (λ clock small told runs.
    subst (λ (r : Reader). RunsScript r (g.I.Source.sees.left c.args.script.now) S.sees (times_from C.sees clock o.clock) (faults_of S.sees c.args.shelf o.shelf)
    o.end (output_of O.sees c.args.out.now c.run_script-in-Storage.new.out) c.args.shelf o.shelf) one runs)

pub returns-in-Storage-clause-refused : goal.returns-in-Storage-clause-refused
returns-in-Storage-clause-refused g c = λ has script_tells fault bad.
    let t = task_of (map string_bytes c.args.words.now) in
    let store : t ≡ Some task.Storage = sym c.in-Ok.ensures.is ∙ c.in-Some.is ∙ ap Some c.in-Storage.is in
    let refused = c.run_script-in-Storage.ensures.refused script_tells fault (subst (λ (x : Option Task). parsed_for x (g.I.Source.sees.left c.args.script.now) ≡ Err fault) store bad) in
    (refused.1, refused.0, refused.2)

pub returns-in-Storage-clause-found : goal.returns-in-Storage-clause-found
returns-in-Storage-clause-found g c = (
  c.run_script-in-Storage.ensures.found.0,
  λ has script_tells.
      let t = task_of (map string_bytes c.args.words.now) in
      let store : t ≡ Some task.Storage = sym c.in-Ok.ensures.is ∙ c.in-Some.is ∙ ap Some c.in-Storage.is in
      let says = c.run_script-in-Storage.ensures.found.1 script_tells in
      (subst (λ (x : Option Task). TellsScript (parsed_for x (g.I.Source.sees.left c.args.script.now)) c.run_script-in-Storage.result.end) (sym store) says.0, says.1),
)

pub returns-in-Storage-clause-cause : goal.returns-in-Storage-clause-cause
returns-in-Storage-clause-cause g c =
    let t = task_of (map string_bytes c.args.words.now) in
    let store : t ≡ Some task.Storage = sym c.in-Ok.ensures.is ∙ c.in-Some.is ∙ ap Some c.in-Storage.is in
    (subst (λ (x : Option Task). EndsBy x c.run_script-in-Storage.result.end) (sym store) c.run_script-in-Storage.ensures.ends.0, c.run_script-in-Storage.ensures.cause, c.run_script-in-Storage.ensures.ends.1)

pub returns-in-Storage-clause-bound : goal.returns-in-Storage-clause-bound
returns-in-Storage-clause-bound g c =
    let t = task_of (map string_bytes c.args.words.now) in
    let store : t ≡ Some task.Storage = sym c.in-Ok.ensures.is ∙ c.in-Some.is ∙ ap Some c.in-Storage.is in
    (c.run_script-in-Storage.ensures.bound, λ none. absurd (none (subst HasScript (sym store) tt)))

pub returns-in-Storage-clause-readings : goal.returns-in-Storage-clause-readings
returns-in-Storage-clause-readings g c = λ clock_tells.
    let t = task_of (map string_bytes c.args.words.now) in
    let store : t ≡ Some task.Storage = sym c.in-Ok.ensures.is ∙ c.in-Some.is ∙ ap Some c.in-Storage.is in
    record {
      lines = λ ls answers.
          absurd (seen t g.I.Source.sees.tells (g.I.Source.sees.left c.args.script.now) ls (Some task.Storage) store answers);
      client = λ client is. absurd (subst IsResync (sym is ∙ store) tt);
      ends = (c.run_script-in-Storage.ensures.readings clock_tells).0;
    }

-- ---- memory lacks for the words

pub returns-in_default-clause-runs : goal.returns-in_default-clause-runs
returns-in_default-clause-runs g c = λ tells settled is_true lines answers.
    let C = g.C.Clock in
    let words = map string_bytes c.args.words.now in
    let has = lacks_script (task_of words) g.I.Source.sees.tells (parsed_for (task_of words) (g.I.Source.sees.left c.args.script.now)) lines (lacks words c.in_default.ensures.lacking) answers in
    any_readings C.sees.tells (C.sees.upcoming c.args.clock) (g.met.C.Clock.readings_small c.args.clock)
    (λ clock same. record {
      runs = inl (rw c.untouched.ensures.end tt, refl, c.untouched.ensures.shelf);
      loads = λ none. absurd (none has);
      silent = λ none. absurd (none has);
    })

pub returns-in_default-clause-resyncs : goal.returns-in_default-clause-resyncs
returns-in_default-clause-resyncs g c = λ client is tells settled is_true.
    let C = g.C.Clock in
    any_readings C.sees.tells (C.sees.upcoming c.args.clock) (g.met.C.Clock.readings_small c.args.clock)
    (λ clock same. inl (record { end = c.untouched.ensures.end; output = refl; shelf = c.untouched.ensures.shelf }))

pub returns-in_default-clause-scripts : goal.returns-in_default-clause-scripts
returns-in_default-clause-scripts g c = λ by is tells script_tells settled may.
    let S = g.S.Shelf in
    let C = g.C.Clock in
    let o = c.untouched.result in
    let script = g.I.Source.sees.left c.args.script.now in
    any_readings C.sees.tells (C.sees.upcoming c.args.clock) (g.met.C.Clock.readings_small c.args.clock)
    (λ clock same.
    unread_runs S.sees (times_from C.sees clock o.clock) (faults_of S.sees c.args.shelf o.shelf) o.end (output_of g.O.Sink.sees c.args.out.now c.args.out.now) c.args.shelf o.shelf
    by script (rw c.untouched.ensures.end tt) refl c.untouched.ensures.shelf)

pub returns-in_default-clause-usage : goal.returns-in_default-clause-usage
returns-in_default-clause-usage g c = λ none. (
  refl,
  rw c.untouched.ensures.end (lacks_usage (map string_bytes c.args.words.now) c.in_default.ensures.lacking none),
  record { shelf = c.untouched.ensures.shelf; clock = c.untouched.ensures.clock },
)

pub returns-in_default-clause-refused : goal.returns-in_default-clause-refused
returns-in_default-clause-refused g c = λ has script_tells fault bad. (
  rw c.untouched.ensures.end tt,
  record { shelf = c.untouched.ensures.shelf; clock = c.untouched.ensures.clock },
  refl,
)

pub returns-in_default-clause-found : goal.returns-in_default-clause-found
returns-in_default-clause-found g c = (
  λ tells. rw c.untouched.ensures.end tt,
  λ has script_tells. (rw c.untouched.ensures.end tt, rw (c.untouched.ensures.end, c.untouched.ensures.told) refl),
)

pub returns-in_default-clause-readings : goal.returns-in_default-clause-readings
returns-in_default-clause-readings g c = λ clock_tells. record {
  lines = λ ls answers. takes_none _ _ _ (ap g.C.Clock.sees.upcoming c.untouched.ensures.clock);
  client = λ client is. takes_none _ _ _ (ap g.C.Clock.sees.upcoming c.untouched.ensures.clock);
  ends = rw c.untouched.ensures.end tt;
}
