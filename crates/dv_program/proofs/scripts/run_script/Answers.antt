use Rattle.std.proofs.Common.{◌∙◌, ap, sym, subst, refl, ℕ, List, arith}
use Rattle.std.specs.Prelude.{None, Some}
use Rattle.dv_formats.specs.Parsing.{parsed}
use Rattle.dv_script.specs.Opened.{lines_left}
use Rattle.dv_serving.specs.Faults.{faults_of}
use Rattle.dv_serving.specs.Outputs.{output_of}
use Rattle.dv_serving.proofs.Readings.{any_readings, readings_give}
use Rattle.dv_cli.specs.declared.ending.End.TheVariants as end
use Rattle.dv_cli.specs.declared.words.Task.TheVariants as task
use Rattle.dv_cli.specs.Scripts.{AreAlike}
use Rattle.dv_cli.specs.Spans.{times_from}
use Rattle.dv_cli.specs.Told.{TellsEnd}
use Rattle.dv_cli.proofs.Reached.{folder_comes, folder_ends, folder_script, good_script, read_comes, read_ends, read_faults, read_script, read_takes_none, reads_refused}
use Rattle.dv_cli.proofs.Told.{quiet_at, quiet_ends}
use Rattle.dv_program.proofs.Opened.{fails_alike, good_runs, unread_runs}
use Rattle.dv_program.proofs.scripts.run_script.Goals as goal

-- ---- a good script

pub serve_folder-requires-clause-servable : goal.serve_folder-requires-clause-servable
serve_folder-requires-clause-servable g c = λ κs bounds.
    let lines = lines_left c.in-Ok-open_script.script.lines in
    c.commands_are_servable.ensures lines c.as_slice.result.now c.in-Ok-open_script.ensures.found

pub serve_folder-requires-clause-sessions : goal.serve_folder-requires-clause-sessions
serve_folder-requires-clause-sessions g c = λ κs bounds. c.in-Ok-open_script.ensures.found.sessions

pub returns-in-Ok-open_script-clause-runs : goal.returns-in-Ok-open_script-clause-runs
returns-in-Ok-open_script-clause-runs g c = λ tells script_tells settled is_true lines good.
    let S = g.S.Shelf in
    let C = g.C.Clock in
    let O = g.O.Sink in
    let o = c.serve_folder.result in
    let script = g.I.Source.sees.left c.args.script.now in
    let alike = subst (λ (t : List ℕ). AreAlike t script) (sym c.as_slice.ensures) (c.in-Ok.ensures.text script_tells) in
    readings_give (c.serve_folder.ensures.runs tells settled is_true) (λ clock small told runs.
    good_runs S.sees (times_from C.sees clock o.clock) (faults_of S.sees c.args.shelf o.shelf) o.end (output_of O.sees c.args.out.now c.serve_folder.new.out) c.args.shelf o.shelf
    c.as_slice.result.now script (lines_left c.in-Ok-open_script.script.lines) lines alike c.in-Ok-open_script.ensures.lines good runs)

pub returns-in-Ok-open_script-clause-refused : goal.returns-in-Ok-open_script-clause-refused
returns-in-Ok-open_script-clause-refused g c = λ script_tells fault bad.
    let script = g.I.Source.sees.left c.args.script.now in
    let alike = subst (λ (t : List ℕ). AreAlike t script) (sym c.as_slice.ensures) (c.in-Ok.ensures.text script_tells) in
    absurd (good_script (parsed script) (lines_left c.in-Ok-open_script.script.lines) fault (sym (alike.lines None) ∙ c.in-Ok-open_script.ensures.lines) bad)

pub returns-in-Ok-open_script-clause-found : goal.returns-in-Ok-open_script-clause-found
returns-in-Ok-open_script-clause-found g c = (
  c.serve_folder.ensures.found,
  λ script_tells.
      let script = g.I.Source.sees.left c.args.script.now in
      let alike = subst (λ (t : List ℕ). AreAlike t script) (sym c.as_slice.ensures) (c.in-Ok.ensures.text script_tells) in (
        folder_script _ _ _ _ (parsed script) (lines_left c.in-Ok-open_script.script.lines) c.serve_folder.result.end c.serve_folder.ensures.cause.cause (sym (alike.lines None) ∙ c.in-Ok-open_script.ensures.lines),
        quiet_ends _ c.serve_folder.result.end c.serve_folder.result.told c.serve_folder.ensures.quiet,
      ),
)

pub returns-in-Ok-open_script-clause-cause : goal.returns-in-Ok-open_script-clause-cause
returns-in-Ok-open_script-clause-cause g c =
    let later = c.serve_folder.ensures.cause.later in
    record {
      later = (later.0, c.in-Ok.ensures.later, later.1);
      cause = folder_comes _ _ _ _ _ _ c.serve_folder.result.end c.serve_folder.ensures.cause.cause;
    }

pub returns-in-Ok-open_script-clause-ends : goal.returns-in-Ok-open_script-clause-ends
returns-in-Ok-open_script-clause-ends g c = (
  folder_ends (Some task.Run) _ _ _ _ c.serve_folder.result.end tt refl (λ rose. tt) c.serve_folder.ensures.cause.cause,
  quiet_at c.serve_folder.result.end c.serve_folder.result.told c.serve_folder.ensures.quiet,
)

-- ---- a text that isn't read

pub returns-in-Err-clause-runs : goal.returns-in-Err-clause-runs
returns-in-Err-clause-runs g c = λ tells script_tells settled is_true lines good.
    let S = g.S.Shelf in
    let C = g.C.Clock in
    let o = c.untouched.result in
    let script = g.I.Source.sees.left c.args.script.now in
    any_readings C.sees.tells (C.sees.upcoming c.args.clock) (c.readings_are_small.ensures c.args.clock)
    (λ clock same.
    unread_runs S.sees (times_from C.sees clock o.clock) (faults_of S.sees c.args.shelf o.shelf) o.end (output_of g.O.Sink.sees c.args.out.now c.args.out.now) c.args.shelf o.shelf
    script lines (rw c.untouched.ensures.end (c.in-Err.ensures.unread (parsed script))) good refl c.untouched.ensures.shelf)

pub returns-in-Err-clause-refused : goal.returns-in-Err-clause-refused
returns-in-Err-clause-refused g c = λ script_tells fault bad.
    let read = parsed (g.I.Source.sees.left c.args.script.now) in (
      record { shelf = c.untouched.ensures.shelf; clock = c.untouched.ensures.clock },
      rw c.untouched.ensures.end (reads_refused read fault c.in-Err.end (c.in-Err.ensures.unread read) bad),
      refl,
    )

pub returns-in-Err-clause-found : goal.returns-in-Err-clause-found
returns-in-Err-clause-found g c = (
  λ tells. rw c.untouched.ensures.end (read_faults _ _ _ c.in-Err.end c.in-Err.ensures.cause),
  λ script_tells.
      let read = parsed (g.I.Source.sees.left c.args.script.now) in (
        rw c.untouched.ensures.end (read_script read c.in-Err.end (c.in-Err.ensures.unread read)),
        quiet_ends _ c.untouched.result.end c.untouched.result.told c.untouched.ensures.told,
      ),
)

pub returns-in-Err-clause-cause : goal.returns-in-Err-clause-cause
returns-in-Err-clause-cause g c =
    rw (c.untouched.ensures.end, c.untouched.ensures.shelf) (record {
      later = (omega arith, c.in-Err.ensures.later, omega arith);
      cause = read_comes _ _ _ _ c.in-Err.end c.in-Err.ensures.cause;
    })

pub returns-in-Err-clause-ends : goal.returns-in-Err-clause-ends
returns-in-Err-clause-ends g c = (
  rw c.untouched.ensures.end (read_ends (Some task.Run) _ _ c.in-Err.end tt c.in-Err.ensures.cause),
  quiet_at c.untouched.result.end c.untouched.result.told c.untouched.ensures.told,
)

pub returns-in-Err-clause-readings : goal.returns-in-Err-clause-readings
returns-in-Err-clause-readings g c = λ clock_tells.
    rw c.untouched.ensures.end (read_takes_none _ _ _ _ c.in-Err.end c.in-Err.ensures.cause (ap g.C.Clock.sees.upcoming c.untouched.ensures.clock))

-- ---- a script that is refused

pub returns-clause-runs : goal.returns-clause-runs
returns-clause-runs g c = λ tells script_tells settled is_true lines good.
    let S = g.S.Shelf in
    let C = g.C.Clock in
    let o = c.untouched-in-Err-open_script.result in
    let script = g.I.Source.sees.left c.args.script.now in
    let alike = subst (λ (t : List ℕ). AreAlike t script) (sym c.as_slice.ensures) (c.in-Ok.ensures.text script_tells) in
    let fails = fails_alike c.as_slice.result.now script c.in-Err-open_script.end alike c.in-Err-open_script.ensures.lines in
    any_readings C.sees.tells (C.sees.upcoming c.args.clock) (c.readings_are_small.ensures c.args.clock)
    (λ clock same.
    unread_runs S.sees (times_from C.sees clock o.clock) (faults_of S.sees c.args.shelf o.shelf) o.end (output_of g.O.Sink.sees c.args.out.now c.args.out.now) c.args.shelf o.shelf
    script lines (rw c.untouched-in-Err-open_script.ensures.end fails) good refl c.untouched-in-Err-open_script.ensures.shelf)

pub returns-clause-refused : goal.returns-clause-refused
returns-clause-refused g c = λ script_tells fault bad.
    let script = g.I.Source.sees.left c.args.script.now in
    let alike = subst (λ (t : List ℕ). AreAlike t script) (sym c.as_slice.ensures) (c.in-Ok.ensures.text script_tells) in
    let fails = fails_alike c.as_slice.result.now script c.in-Err-open_script.end alike c.in-Err-open_script.ensures.lines in (
      record { shelf = c.untouched-in-Err-open_script.ensures.shelf; clock = c.untouched-in-Err-open_script.ensures.clock },
      rw c.untouched-in-Err-open_script.ensures.end (reads_refused (parsed script) fault (end.Script c.in-Err-open_script.end) fails bad),
      refl,
    )

pub returns-clause-found : goal.returns-clause-found
returns-clause-found g c = (
  λ tells. rw c.untouched-in-Err-open_script.ensures.end tt,
  λ script_tells.
      let script = g.I.Source.sees.left c.args.script.now in
      let alike = subst (λ (t : List ℕ). AreAlike t script) (sym c.as_slice.ensures) (c.in-Ok.ensures.text script_tells) in
      let fails = fails_alike c.as_slice.result.now script c.in-Err-open_script.end alike c.in-Err-open_script.ensures.lines in
      let line = subst (λ (l : List ℕ). TellsEnd l (end.Script c.in-Err-open_script.end) c.told_of-told.result) (c.as_slice-in-Err-open_script.ensures ∙ c.in-Ok.ensures.front script_tells) c.told_of-told.ensures.line in
      (rw c.untouched-in-Err-open_script.ensures.end fails, rw (c.untouched-in-Err-open_script.ensures.end, c.untouched-in-Err-open_script.ensures.told) line),
)

pub returns-clause-cause : goal.returns-clause-cause
returns-clause-cause g c =
    rw (c.untouched-in-Err-open_script.ensures.end, c.untouched-in-Err-open_script.ensures.shelf) (record {
      later = (omega arith, c.in-Ok.ensures.later, omega arith);
      cause = tt;
    })

pub returns-clause-ends : goal.returns-clause-ends
returns-clause-ends g c = (rw c.untouched-in-Err-open_script.ensures.end tt, rw (c.untouched-in-Err-open_script.ensures.end, c.untouched-in-Err-open_script.ensures.told) c.told_of-told.ensures.at)

pub returns-clause-readings : goal.returns-clause-readings
returns-clause-readings g c = λ clock_tells.
    rw c.untouched-in-Err-open_script.ensures.end (ap g.C.Clock.sees.upcoming c.untouched-in-Err-open_script.ensures.clock)
