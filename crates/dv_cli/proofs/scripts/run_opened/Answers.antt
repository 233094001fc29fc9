use Rattle.std.proofs.Common.{ℕ, sym, subst}
use Rattle.dv_serving.specs.Faults.{faults_of}
use Rattle.dv_serving.specs.Outputs.{output_of}
use Rattle.dv_serving.specs.Readings.{AtReadings}
use Rattle.dv_serving.proofs.Readings.{any_readings, readings_give}
use Rattle.dv_cli.specs.declared.scripts.Opened.{Opened}
use Rattle.dv_cli.specs.declared.scripts.Opened.TheVariants as opened
use Rattle.dv_cli.specs.Scripts.{AnswersOpened, AreServable, MayBegin, MayServe, TakesForOpened}
use Rattle.dv_cli.specs.Spans.{times_from}
use Rattle.dv_cli.proofs.scripts.run_opened.Goals as goal

pub run_folder-requires-clause-stands : goal.run_folder-requires-clause-stands
run_folder-requires-clause-stands g c = (subst MayServe c.in-Lines.is c.requires.serves).stands

pub run_folder-requires-clause-servable : goal.run_folder-requires-clause-servable
run_folder-requires-clause-servable g c = (subst MayServe c.in-Lines.is c.requires.serves).servable

pub run_folder-requires-clause-few : goal.run_folder-requires-clause-few
run_folder-requires-clause-few g c = (subst MayServe c.in-Lines.is c.requires.serves).few

pub run_folder-requires-clause-sessions : goal.run_folder-requires-clause-sessions
run_folder-requires-clause-sessions g c = (subst MayServe c.in-Lines.is c.requires.serves).seats

pub returns-in-Lines-clause-runs : goal.returns-in-Lines-clause-runs
returns-in-Lines-clause-runs g c = λ tells settled may.
    let S = g.S.Shelf in
    let C = g.C.Clock in
    let O = g.O.Sink in
    let o = c.run_folder.result in
    let is_true = subst (λ (x : Opened). MayBegin x (S.sees.files c.args.shelf)) c.in-Lines.is may in
    subst (λ (x : Opened). AtReadings C.sees.tells (C.sees.upcoming c.args.clock) (λ (readings : ℕ → ℕ).
    AnswersOpened x S.sees (times_from C.sees readings o.clock) (faults_of S.sees c.args.shelf o.shelf) o.end (output_of O.sees c.args.out.now c.run_folder.new.out) c.args.shelf o.shelf)) (sym c.in-Lines.is)
    (c.run_folder.ensures.runs tells settled is_true)

pub returns-in-Lines-clause-readings : goal.returns-in-Lines-clause-readings
returns-in-Lines-clause-readings g c = λ timed.
    let C = g.C.Clock in
    let o = c.run_folder.result in
    subst (λ (x : Opened). TakesForOpened x (C.sees.upcoming c.args.clock) (C.sees.upcoming o.clock) o.end) (sym c.in-Lines.is) (c.run_folder.ensures.readings timed)

pub returns-in-Calls-clause-runs : goal.returns-in-Calls-clause-runs
returns-in-Calls-clause-runs g c = λ tells settled may.
    let S = g.S.Shelf in
    let C = g.C.Clock in
    let O = g.O.Sink in
    let o = c.run_calls.result in
    any_readings C.sees.tells (C.sees.upcoming c.args.clock) (g.met.C.Clock.readings_small c.args.clock)
    (λ clock same.
    subst (λ (x : Opened). AnswersOpened x S.sees (times_from C.sees clock o.clock) (faults_of S.sees c.args.shelf o.shelf) o.end (output_of O.sees c.args.out.now c.run_calls.new.out) c.args.shelf o.shelf) (sym c.in-Calls.is)
    (c.run_calls.ensures.answers tells settled))

pub returns-in-Calls-clause-readings : goal.returns-in-Calls-clause-readings
returns-in-Calls-clause-readings g c = λ timed.
    let C = g.C.Clock in
    let o = c.run_calls.result in
    subst (λ (x : Opened). TakesForOpened x (C.sees.upcoming c.args.clock) (C.sees.upcoming o.clock) o.end) (sym c.in-Calls.is) (c.run_calls.ensures.readings timed)
