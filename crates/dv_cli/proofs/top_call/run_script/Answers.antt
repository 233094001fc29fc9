use Rattle.std.proofs.Common.{◌≡◌, ◌∙◌, ap, sym, subst, refl, ℕ, List, arith}
use Rattle.std.specs.Prelude.{Some}
use Rattle.dv_script.specs.Sources.{ScriptFails}
use Rattle.dv_serving.specs.Outputs.{output_of}
use Rattle.dv_serving.specs.Faults.{faults_of}
use Rattle.dv_serving.proofs.Readings.{any_readings, readings_give}
use Rattle.dv_beginning.proofs.Readings.{takes_none}
use Rattle.dv_cli.specs.declared.ending.End.TheVariants as end
use Rattle.dv_cli.specs.Scripts.{AreAlike, SaysOf}
use Rattle.dv_cli.specs.Spans.{times_from}
use Rattle.dv_cli.specs.Tasks.{parsed_by, script_task}
use Rattle.dv_cli.specs.Told.{TellsEnd}
use Rattle.dv_cli.proofs.Reached.{folder_comes, folder_ends, folder_script, not_refused, read_comes, read_ends, read_faults, read_script, read_takes_none, reads_refused, script_answers, script_opens, script_reads}
use Rattle.dv_cli.proofs.ScriptRuns.{alike_by, may_begin, may_serve, none_takes, opened_good, opened_runs, opened_takes, script_takes, unread_runs}
use Rattle.dv_cli.proofs.Told.{quiet_at, quiet_ends}
use Rattle.dv_cli.proofs.top_call.run_script.Goals as goal

-- ---- a good script

pub run_opened-requires : goal.run_opened-requires
run_opened-requires g c = record {
  serves = may_serve c.args.reader c.as_slice.result.now c.in-Ok-open_for.opened c.requires.kept c.in-Ok-open_for.ensures.opens c.commands_are_servable.ensures;
}

pub returns-in-Ok-open_for-clause-runs : goal.returns-in-Ok-open_for-clause-runs
returns-in-Ok-open_for-clause-runs g c = λ tells script_tells settled may.
    let S = g.S.Shelf in
    let C = g.C.Clock in
    let O = g.O.Sink in
    let o = c.run_opened.result in
    let script = g.I.Source.sees.left c.args.script.now in
    let text = c.as_slice.result.now in
    let alike = subst (λ (t : List ℕ). AreAlike t script) (sym c.as_slice.ensures) (c.in-Ok.ensures.text script_tells) in
    let says = c.in-Ok-open_for.ensures.opens in
    readings_give (c.run_opened.ensures.runs tells settled (may_begin c.args.reader text c.in-Ok-open_for.opened (S.sees.files c.args.shelf) says may)) (λ clock small told answers.
    opened_runs S.sees (times_from C.sees clock o.clock) (faults_of S.sees c.args.shelf o.shelf) o.end (output_of O.sees c.args.out.now c.run_opened.new.out) c.args.shelf o.shelf
    c.args.reader text script c.in-Ok-open_for.opened alike says answers)

pub returns-in-Ok-open_for-clause-refused : goal.returns-in-Ok-open_for-clause-refused
returns-in-Ok-open_for-clause-refused g c = λ script_tells fault bad.
    let script = g.I.Source.sees.left c.args.script.now in
    let text = c.as_slice.result.now in
    let alike = subst (λ (t : List ℕ). AreAlike t script) (sym c.as_slice.ensures) (c.in-Ok.ensures.text script_tells) in
    let good = opened_good c.args.reader text c.in-Ok-open_for.opened c.in-Ok-open_for.ensures.opens in
    absurd (not_refused (parsed_by c.args.reader script) good.0 fault (sym (alike_by c.args.reader text script alike) ∙ good.1) bad)

pub returns-in-Ok-open_for-clause-found : goal.returns-in-Ok-open_for-clause-found
returns-in-Ok-open_for-clause-found g c = (
  c.run_opened.ensures.found,
  λ script_tells.
      let script = g.I.Source.sees.left c.args.script.now in
      let text = c.as_slice.result.now in
      let alike = subst (λ (t : List ℕ). AreAlike t script) (sym c.as_slice.ensures) (c.in-Ok.ensures.text script_tells) in
      let good = opened_good c.args.reader text c.in-Ok-open_for.opened c.in-Ok-open_for.ensures.opens in (
        folder_script _ _ _ _ (parsed_by c.args.reader script) good.0 c.run_opened.result.end c.run_opened.ensures.cause.cause (sym (alike_by c.args.reader text script alike) ∙ good.1),
        quiet_ends _ c.run_opened.result.end c.run_opened.result.told c.run_opened.ensures.quiet,
      ),
)

pub returns-in-Ok-open_for-clause-cause : goal.returns-in-Ok-open_for-clause-cause
returns-in-Ok-open_for-clause-cause g c =
    let later = c.run_opened.ensures.cause.later in
    record {
      later = (later.0, c.in-Ok.ensures.later, later.1);
      cause = folder_comes _ _ _ _ _ _ c.run_opened.result.end c.run_opened.ensures.cause.cause;
    }

pub returns-in-Ok-open_for-clause-ends : goal.returns-in-Ok-open_for-clause-ends
returns-in-Ok-open_for-clause-ends g c = (
  folder_ends (Some (script_task c.args.reader)) _ _ _ _ c.run_opened.result.end (script_opens c.args.reader) refl (λ rose. script_answers c.args.reader) c.run_opened.ensures.cause.cause,
  quiet_at c.run_opened.result.end c.run_opened.result.told c.run_opened.ensures.quiet,
)

pub returns-in-Ok-open_for-clause-readings : goal.returns-in-Ok-open_for-clause-readings
returns-in-Ok-open_for-clause-readings g c = λ clock_tells.
    let C = g.C.Clock in
    let old = C.sees.upcoming c.args.clock in
    let new = C.sees.upcoming c.run_opened.result.clock in
    let takes = c.run_opened.ensures.readings clock_tells in (
      opened_takes _ _ _ _ old new c.in-Ok-open_for.opened c.run_opened.result.end c.run_opened.ensures.cause.cause takes,
      λ script_tells.
          let script = g.I.Source.sees.left c.args.script.now in
          let alike = subst (λ (t : List ℕ). AreAlike t script) (sym c.as_slice.ensures) (c.in-Ok.ensures.text script_tells) in
          script_takes c.args.reader c.as_slice.result.now script c.in-Ok-open_for.opened old new c.run_opened.result.end alike c.in-Ok-open_for.ensures.opens takes,
    )

-- ---- a text that isn't read

pub returns-in-Err-clause-runs : goal.returns-in-Err-clause-runs
returns-in-Err-clause-runs g c = λ tells script_tells settled may.
    let S = g.S.Shelf in
    let C = g.C.Clock in
    let o = c.untouched.result in
    let script = g.I.Source.sees.left c.args.script.now in
    any_readings C.sees.tells (C.sees.upcoming c.args.clock) (g.met.C.Clock.readings_small c.args.clock)
    (λ clock same.
    unread_runs S.sees (times_from C.sees clock o.clock) (faults_of S.sees c.args.shelf o.shelf) o.end (output_of g.O.Sink.sees c.args.out.now c.args.out.now) c.args.shelf o.shelf
    c.args.reader script (rw c.untouched.ensures.end (c.in-Err.ensures.unread (parsed_by c.args.reader script))) refl c.untouched.ensures.shelf)

pub returns-in-Err-clause-refused : goal.returns-in-Err-clause-refused
returns-in-Err-clause-refused g c = λ script_tells fault bad. (
  record { shelf = c.untouched.ensures.shelf; clock = c.untouched.ensures.clock },
  rw c.untouched.ensures.end (reads_refused (parsed_by c.args.reader (g.I.Source.sees.left c.args.script.now)) fault c.in-Err.end (c.in-Err.ensures.unread (parsed_by c.args.reader (g.I.Source.sees.left c.args.script.now))) bad),
  refl,
)

pub returns-in-Err-clause-found : goal.returns-in-Err-clause-found
returns-in-Err-clause-found g c = (
  λ tells. rw c.untouched.ensures.end (read_faults _ _ _ c.in-Err.end c.in-Err.ensures.cause),
  λ script_tells. (
    rw c.untouched.ensures.end (read_script (parsed_by c.args.reader (g.I.Source.sees.left c.args.script.now)) c.in-Err.end (c.in-Err.ensures.unread (parsed_by c.args.reader (g.I.Source.sees.left c.args.script.now)))),
    quiet_ends _ c.untouched.result.end c.untouched.result.told c.untouched.ensures.told,
  ),
)

pub returns-in-Err-clause-cause : goal.returns-in-Err-clause-cause
returns-in-Err-clause-cause g c =
    rw (c.untouched.ensures.end, c.untouched.ensures.shelf) (record {
      later = (omega arith, c.in-Err.ensures.later, omega arith);
      cause = read_comes _ _ _ _ c.in-Err.end c.in-Err.ensures.cause;
    })

pub returns-in-Err-clause-ends : goal.returns-in-Err-clause-ends
returns-in-Err-clause-ends g c = (
  rw c.untouched.ensures.end (read_ends (Some (script_task c.args.reader)) _ _ c.in-Err.end (script_reads c.args.reader) c.in-Err.ensures.cause),
  quiet_at c.untouched.result.end c.untouched.result.told c.untouched.ensures.told,
)

pub returns-in-Err-clause-readings : goal.returns-in-Err-clause-readings
returns-in-Err-clause-readings g c = λ clock_tells.
    let same = ap g.C.Clock.sees.upcoming c.untouched.ensures.clock in (
      rw c.untouched.ensures.end (read_takes_none _ _ _ _ c.in-Err.end c.in-Err.ensures.cause same),
      λ script_tells. none_takes c.args.reader (g.I.Source.sees.left c.args.script.now) _ _ same,
    )

-- ---- a script that is refused

pub returns-clause-runs : goal.returns-clause-runs
returns-clause-runs g c = λ tells script_tells settled may.
    let S = g.S.Shelf in
    let C = g.C.Clock in
    let o = c.untouched-in-Err-open_for.result in
    let script = g.I.Source.sees.left c.args.script.now in
    let alike = subst (λ (t : List ℕ). AreAlike t script) (sym c.as_slice.ensures) (c.in-Ok.ensures.text script_tells) in
    let fails = subst (ScriptFails c.in-Err-open_for.end) (alike_by c.args.reader c.as_slice.result.now script alike) c.in-Err-open_for.ensures.fails in
    any_readings C.sees.tells (C.sees.upcoming c.args.clock) (g.met.C.Clock.readings_small c.args.clock)
    (λ clock same.
    unread_runs S.sees (times_from C.sees clock o.clock) (faults_of S.sees c.args.shelf o.shelf) o.end (output_of g.O.Sink.sees c.args.out.now c.args.out.now) c.args.shelf o.shelf
    c.args.reader script (rw c.untouched-in-Err-open_for.ensures.end fails) refl c.untouched-in-Err-open_for.ensures.shelf)

pub returns-clause-refused : goal.returns-clause-refused
returns-clause-refused g c = λ script_tells fault bad.
    let script = g.I.Source.sees.left c.args.script.now in
    let alike = subst (λ (t : List ℕ). AreAlike t script) (sym c.as_slice.ensures) (c.in-Ok.ensures.text script_tells) in
    let fails = subst (ScriptFails c.in-Err-open_for.end) (alike_by c.args.reader c.as_slice.result.now script alike) c.in-Err-open_for.ensures.fails in (
      record { shelf = c.untouched-in-Err-open_for.ensures.shelf; clock = c.untouched-in-Err-open_for.ensures.clock },
      rw c.untouched-in-Err-open_for.ensures.end (reads_refused (parsed_by c.args.reader script) fault (end.Script c.in-Err-open_for.end) fails bad),
      refl,
    )

pub returns-clause-found : goal.returns-clause-found
returns-clause-found g c = (
  λ tells. rw c.untouched-in-Err-open_for.ensures.end tt,
  λ script_tells.
      let script = g.I.Source.sees.left c.args.script.now in
      let alike = subst (λ (t : List ℕ). AreAlike t script) (sym c.as_slice.ensures) (c.in-Ok.ensures.text script_tells) in
      let fails = subst (ScriptFails c.in-Err-open_for.end) (alike_by c.args.reader c.as_slice.result.now script alike) c.in-Err-open_for.ensures.fails in
      let line = subst (λ (l : List ℕ). TellsEnd l (end.Script c.in-Err-open_for.end) c.told_of-told.result) (c.as_slice-in-Err-open_for.ensures ∙ c.in-Ok.ensures.front script_tells) c.told_of-told.ensures.line in
      (rw c.untouched-in-Err-open_for.ensures.end fails, rw (c.untouched-in-Err-open_for.ensures.end, c.untouched-in-Err-open_for.ensures.told) line),
)

pub returns-clause-cause : goal.returns-clause-cause
returns-clause-cause g c =
    rw (c.untouched-in-Err-open_for.ensures.end, c.untouched-in-Err-open_for.ensures.shelf) (record {
      later = (omega arith, c.in-Ok.ensures.later, omega arith);
      cause = tt;
    })

pub returns-clause-ends : goal.returns-clause-ends
returns-clause-ends g c = (rw c.untouched-in-Err-open_for.ensures.end (script_reads c.args.reader), rw (c.untouched-in-Err-open_for.ensures.end, c.untouched-in-Err-open_for.ensures.told) c.told_of-told.ensures.at)

pub returns-clause-readings : goal.returns-clause-readings
returns-clause-readings g c = λ clock_tells.
    let same = ap g.C.Clock.sees.upcoming c.untouched-in-Err-open_for.ensures.clock in (
      rw c.untouched-in-Err-open_for.ensures.end same,
      λ script_tells. none_takes c.args.reader (g.I.Source.sees.left c.args.script.now) _ _ same,
    )
