use Rattle.std.proofs.Common.{◌≡◌, ◌∙◌, inl, inr, ap, sym, subst, refl, List, [], arith}
use Rattle.std.specs.Prelude.{None, Ok, Some}
use Rattle.dv_formats.specs.Parsing.{ScriptFault}
use Rattle.dv_maildrop.specs.declared.types.PopLine.{PopLine}
use Rattle.dv_maildrop.specs.Scripts.{script_commands}
use Rattle.dv_serving.specs.Faults.{faults_of}
use Rattle.dv_serving.specs.Outputs.{output_of}
use Rattle.dv_serving.proofs.Readings.{any_readings, readings_give}
use Rattle.dv_cli.specs.declared.words.Task.TheVariants as task
use Rattle.dv_cli.specs.Spans.{times_from}
use Rattle.dv_cli.proofs.Reached.{folder_comes, folder_ends, folder_script, good_script, read_comes, read_ends, read_faults, read_script, read_takes_none, reads_refused, reads_well}
use Rattle.dv_program.specs.Forms.{without_commands}
use Rattle.dv_program.specs.Pop3.{RunsMaildrop}
use Rattle.dv_program.proofs.Maildrops.{read_so, same_commands}
use Rattle.dv_program.proofs.pop3.run_lines.Goals as goal

-- ---- a good script

pub returns-in-Some-clause-runs : goal.returns-in-Some-clause-runs
returns-in-Some-clause-runs g c = λ tells script_tells settled is_true lines is.
    let S = g.S.Shelf in
    let C = g.C.Clock in
    let o = c.serve_folder.result in
    let script = g.I.Source.sees.left c.args.script.now in
    let says = read_so script c.as_slice.result.now c.open_lines.result (Some c.in-Some.lines) (c.as_slice.ensures ∙ c.in-Ok.ensures.front script_tells) c.open_lines.ensures c.in-Some.is in
    let same = same_commands (script_commands script) c.in-Some.lines lines says is in
    readings_give (c.serve_folder.ensures.runs tells settled is_true) (λ clock small told runs.
    inr (subst (λ (ls : List PopLine). RunsMaildrop S.sees (times_from C.sees clock o.clock) (faults_of S.sees c.args.shelf o.shelf) ls o.end (output_of g.O.Sink.sees c.args.out.now c.serve_folder.new.out) c.args.shelf o.shelf) same runs))

pub returns-in-Some-clause-refused : goal.returns-in-Some-clause-refused
returns-in-Some-clause-refused g c = λ script_tells fault bad.
    let script = g.I.Source.sees.left c.args.script.now in
    let says = read_so script c.as_slice.result.now c.open_lines.result (Some c.in-Some.lines) (c.as_slice.ensures ∙ c.in-Ok.ensures.front script_tells) c.open_lines.ensures c.in-Some.is in
    absurd (good_script (without_commands (script_commands script)) [] fault (ap without_commands says) bad)

pub returns-in-Some-clause-found : goal.returns-in-Some-clause-found
returns-in-Some-clause-found g c = (
  c.serve_folder.ensures.found,
  λ script_tells.
      let script = g.I.Source.sees.left c.args.script.now in
      let says = read_so script c.as_slice.result.now c.open_lines.result (Some c.in-Some.lines) (c.as_slice.ensures ∙ c.in-Ok.ensures.front script_tells) c.open_lines.ensures c.in-Some.is in
      folder_script _ _ _ _ (without_commands (script_commands script)) [] c.serve_folder.result.end c.serve_folder.ensures.cause.cause (ap without_commands says),
)

pub returns-in-Some-clause-ends : goal.returns-in-Some-clause-ends
returns-in-Some-clause-ends g c = (
  folder_ends (Some task.Run) _ _ _ _ c.serve_folder.result.end tt refl (λ rose. tt) c.serve_folder.ensures.cause.cause,
  c.serve_folder.ensures.quiet,
)

pub returns-in-Some-clause-cause : goal.returns-in-Some-clause-cause
returns-in-Some-clause-cause g c =
    let later = c.serve_folder.ensures.cause.later in
    record {
      later = (later.0, c.in-Ok.ensures.later, later.1);
      cause = folder_comes _ _ _ _ _ _ c.serve_folder.result.end c.serve_folder.ensures.cause.cause;
    }

-- ---- a text that isn't read

pub returns-in-Err-clause-runs : goal.returns-in-Err-clause-runs
returns-in-Err-clause-runs g c = λ tells script_tells settled is_true lines is.
    let S = g.S.Shelf in
    let C = g.C.Clock in
    let o = c.untouched.result in
    let read = without_commands (script_commands (g.I.Source.sees.left c.args.script.now)) in
    let good : read ≡ Ok [] = ap without_commands is in
    any_readings C.sees.tells (C.sees.upcoming c.args.clock) (c.readings_are_small.ensures c.args.clock)
    (λ clock same. inl (reads_well read [] o.end (rw c.untouched.ensures.end (c.in-Err.ensures.unread read)) good, refl, c.untouched.ensures.shelf))

pub returns-in-Err-clause-refused : goal.returns-in-Err-clause-refused
returns-in-Err-clause-refused g c = λ script_tells fault bad.
    let read = without_commands (script_commands (g.I.Source.sees.left c.args.script.now)) in (
      record { shelf = c.untouched.ensures.shelf; clock = c.untouched.ensures.clock },
      rw c.untouched.ensures.end (reads_refused read fault c.in-Err.end (c.in-Err.ensures.unread read) bad),
      refl,
    )

pub returns-in-Err-clause-found : goal.returns-in-Err-clause-found
returns-in-Err-clause-found g c = (
  λ tells. rw c.untouched.ensures.end (read_faults _ _ _ c.in-Err.end c.in-Err.ensures.cause),
  λ script_tells.
      let read = without_commands (script_commands (g.I.Source.sees.left c.args.script.now)) in
      rw c.untouched.ensures.end (read_script read c.in-Err.end (c.in-Err.ensures.unread read)),
)

pub returns-in-Err-clause-ends : goal.returns-in-Err-clause-ends
returns-in-Err-clause-ends g c = (rw c.untouched.ensures.end (read_ends (Some task.Run) _ _ c.in-Err.end tt c.in-Err.ensures.cause), c.untouched.ensures.told)

pub returns-in-Err-clause-cause : goal.returns-in-Err-clause-cause
returns-in-Err-clause-cause g c =
    rw (c.untouched.ensures.end, c.untouched.ensures.shelf) (record {
      later = (omega arith, c.in-Err.ensures.later, omega arith);
      cause = read_comes _ _ _ _ c.in-Err.end c.in-Err.ensures.cause;
    })

pub returns-in-Err-clause-readings : goal.returns-in-Err-clause-readings
returns-in-Err-clause-readings g c = λ clock_tells other.
    rw c.untouched.ensures.end (read_takes_none _ _ _ _ c.in-Err.end c.in-Err.ensures.cause (ap g.C.Clock.sees.upcoming c.untouched.ensures.clock))

-- ---- a script that is too long

pub returns-clause-runs : goal.returns-clause-runs
returns-clause-runs g c = λ tells script_tells settled is_true lines is.
    let script = g.I.Source.sees.left c.args.script.now in
    let says = read_so script c.as_slice.result.now c.open_lines.result None (c.as_slice.ensures ∙ c.in-Ok.ensures.front script_tells) c.open_lines.ensures c.in-None.is in
    absurd (good_script (without_commands (script_commands script)) [] ScriptFault.TooLong (ap without_commands is) (ap without_commands says))

pub returns-clause-refused : goal.returns-clause-refused
returns-clause-refused g c = λ script_tells fault bad.
    let script = g.I.Source.sees.left c.args.script.now in
    let says = read_so script c.as_slice.result.now c.open_lines.result None (c.as_slice.ensures ∙ c.in-Ok.ensures.front script_tells) c.open_lines.ensures c.in-None.is in (
      record { shelf = c.untouched-in-None.ensures.shelf; clock = c.untouched-in-None.ensures.clock },
      rw c.untouched-in-None.ensures.end (sym bad ∙ ap without_commands says),
      refl,
    )

pub returns-clause-found : goal.returns-clause-found
returns-clause-found g c = (
  λ tells. rw c.untouched-in-None.ensures.end tt,
  λ script_tells.
      let script = g.I.Source.sees.left c.args.script.now in
      let says = read_so script c.as_slice.result.now c.open_lines.result None (c.as_slice.ensures ∙ c.in-Ok.ensures.front script_tells) c.open_lines.ensures c.in-None.is in
      rw c.untouched-in-None.ensures.end (ap without_commands says),
)

pub returns-clause-ends : goal.returns-clause-ends
returns-clause-ends g c = (rw c.untouched-in-None.ensures.end tt, c.untouched-in-None.ensures.told)

pub returns-clause-cause : goal.returns-clause-cause
returns-clause-cause g c =
    rw (c.untouched-in-None.ensures.end, c.untouched-in-None.ensures.shelf) (record {
      later = (omega arith, c.in-Ok.ensures.later, omega arith);
      cause = tt;
    })

pub returns-clause-readings : goal.returns-clause-readings
returns-clause-readings g c = λ clock_tells other.
    rw c.untouched-in-None.ensures.end (ap g.C.Clock.sees.upcoming c.untouched-in-None.ensures.clock)
