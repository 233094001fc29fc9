use Rattle.std.proofs.Common.{refl}
use Rattle.dv_serving.specs.Faults.{faults_between, faults_of}
use Rattle.dv_serving.specs.Outputs.{output_of}
use Rattle.dv_mdbox_lines.specs.Views.{calls_left}
use Rattle.dv_mdbox_serving.proofs.InTurn.{serving_cause, serving_found, serving_opened, serving_runs, serving_takes}
use Rattle.dv_mdbox_serving.proofs.Lasting.{served_next, unopened_next}
use Rattle.dv_mdbox_serving.proofs.running.run_storage.Goals as goal

-- ---- it was opened

pub returns-in-Ok-clause-runs : goal.returns-in-Ok-clause-runs
returns-in-Ok-clause-runs g c = λ tells settled start from.
    let S = g.S.Shelf in
    let O = g.O.Sink in
    let old = c.args.shelf in
    let ran = c.serve_all.result in
    serving_runs S.sees start (faults_of S.sees old ran.shelf) (calls_left c.args.calls) ran.end (output_of O.sees c.args.out.now c.serve_all.new.out) old ran.shelf c.serve_all.ensures.ends
    (c.serve_all.ensures.runs tells start old (c.in-Ok.ensures.begins tells settled start from))

pub returns-in-Ok-clause-unopened : goal.returns-in-Ok-clause-unopened
returns-in-Ok-clause-unopened g c = λ tells settled.
    let O = g.O.Sink in
    let ran = c.serve_all.result in
    serving_opened g.S.Shelf.sees ran.end (output_of O.sees c.args.out.now c.serve_all.new.out) c.args.shelf ran.shelf c.serve_all.ensures.ends

pub returns-in-Ok-clause-found : goal.returns-in-Ok-clause-found
returns-in-Ok-clause-found g c = λ tells. serving_found (g.S.Shelf.sees.files c.args.shelf) c.in-Ok.storage.chain c.serve_all.result.end c.serve_all.ensures.ends (c.in-Ok.ensures.found tells)

pub returns-in-Ok-clause-cause : goal.returns-in-Ok-clause-cause
returns-in-Ok-clause-cause g c =
    let S = g.S.Shelf in
    let O = g.O.Sink in
    let ran = c.serve_all.result in
    serving_cause ran.end (faults_of S.sees c.args.shelf ran.shelf) (faults_of S.sees c.in-Ok.storage.shelf ran.shelf) (faults_between (O.sees.fault_count c.args.out.now) (O.sees.fault_count c.serve_all.new.out)) c.serve_all.ensures.ends c.serve_all.ensures.cause

pub returns-in-Ok-clause-clock : goal.returns-in-Ok-clause-clock
returns-in-Ok-clause-clock g c = λ reads. serving_takes c.serve_all.result.end (g.C.Clock.sees.upcoming c.args.clock) (g.C.Clock.sees.upcoming c.serve_all.result.clock) c.serve_all.ensures.ends

pub returns-in-Ok-clause-next : goal.returns-in-Ok-clause-next
returns-in-Ok-clause-next g c = λ tells settled earlier start is from.
    let S = g.S.Shelf in
    let O = g.O.Sink in
    let old = c.args.shelf in
    let ran = c.serve_all.result in
    served_next earlier start is S.sees old ran.shelf from (faults_of S.sees old ran.shelf) (calls_left c.args.calls) ran.end (output_of O.sees c.args.out.now c.serve_all.new.out)
    (c.serve_all.ensures.runs tells start old (c.in-Ok.ensures.begins tells settled start from))

-- ---- or it wasn't

pub returns-in-Err-clause-next : goal.returns-in-Err-clause-next
returns-in-Err-clause-next g c = λ tells settled earlier start is from.
    let left = c.in-Err.ensures.unopened tells settled in
    unopened_next earlier start is g.S.Shelf.sees c.args.shelf _ from _ left

pub returns-in-Err-clause-runs : goal.returns-in-Err-clause-runs
returns-in-Err-clause-runs g c = λ tells settled start from. (λ told. refl, c.in-Err.ensures.unopened tells settled)

pub returns-in-Err-clause-unopened : goal.returns-in-Err-clause-unopened
returns-in-Err-clause-unopened g c = λ tells settled. (λ told. refl, c.in-Err.ensures.unopened tells settled)
