use Rattle.std.proofs.Common.{◌*◌, length, refl}
use Rattle.dv_chain.specs.declared.chain.Chain.{Chain}
use Rattle.dv_serving.specs.Outputs.{output_of}
use Rattle.dv_cli.specs.declared.ending.End.{End}
use Rattle.dv_cli.specs.Beside.{ServesWith}
use Rattle.dv_cli.specs.Spans.{times_from}
use Rattle.dv_serving.specs.Faults.{faults_of}
use Rattle.dv_serving.proofs.Readings.{readings_give, readings_more}
use Rattle.dv_cli.proofs.FoundTold.{served_told}
use Rattle.dv_cli.proofs.Folders.{end_later, unopened_cause}
use Rattle.dv_cli.proofs.Served.{runs_serving}
use Rattle.dv_cli.proofs.Timed.{fault_takes, run_takes, takes_both}
use Rattle.dv_cli.proofs.beside.run_folder.Goals as goal

-- ---- lines are served

pub returns-in-Ok-clause-runs : goal.returns-in-Ok-clause-runs
returns-in-Ok-clause-runs g c = λ tells settled is_true.
    let S = g.S.Shelf in
    let C = g.C.Clock in
    let O = g.O.Sink in
    let served = c.serve_with.ensures in
    let behind = c.serve_with.result in
    let begins = c.in-Ok.ensures.begins tells settled is_true in
    readings_more begins (served.runs tells begins.clock c.args.shelf begins.small begins.holds (S.sees.fault_count c.args.shelf) c.in-Ok.ensures.cause.later)
    (λ clock.
    runs_serving S.sees (times_from C.sees clock behind.clock)
    (λ (how : End). ServesWith c.args.beside S.sees (times_from C.sees clock behind.clock) (faults_of S.sees c.args.shelf behind.shelf) (g.L.Lines.left c.args.lines.now) how
    (output_of O.sees c.args.out.now c.serve_with.new.out) c.args.shelf behind.shelf)
    (output_of O.sees c.args.out.now c.serve_with.new.out) c.args.shelf behind.shelf behind.end served.ends.0)

pub returns-in-Ok-clause-cause : goal.returns-in-Ok-clause-cause
returns-in-Ok-clause-cause g c =
    let S = g.S.Shelf in
    let O = g.O.Sink in
    let behind = c.serve_with.result in
    end_later (S.sees.fault_count c.args.shelf) (S.sees.fault_count c.in-Ok.store.shelf) (S.sees.fault_count behind.shelf) (O.sees.fault_count c.args.out.now) (O.sees.fault_count c.serve_with.new.out) c.in-Ok.ensures.cause.later behind.end
    c.serve_with.ensures.ends.0 c.serve_with.ensures.cause

pub returns-in-Ok-clause-readings : goal.returns-in-Ok-clause-readings
returns-in-Ok-clause-readings g c = λ timed.
    let C = g.C.Clock in
    let behind = c.serve_with.result in
    let old = C.sees.upcoming c.args.clock in
    let mid = C.sees.upcoming c.in-Ok.store.clock in
    let new = C.sees.upcoming behind.clock in
    run_takes (length (g.L.Lines.left c.args.lines.now)) old new behind.end c.serve_with.ensures.ends.0
    (takes_both 1 (2 * length (g.L.Lines.left c.args.lines.now)) old mid new (c.in-Ok.ensures.clock timed) (c.serve_with.ensures.readings timed))

-- ---- the folder isn't opened

pub returns-in-Err-clause-runs : goal.returns-in-Err-clause-runs
returns-in-Err-clause-runs g c = λ tells settled is_true.
    readings_give (c.in-Err.ensures.begins tells settled is_true) (λ clock small known unopened. (λ told. refl, unopened))

pub returns-in-Err-clause-cause : goal.returns-in-Err-clause-cause
returns-in-Err-clause-cause g c =
    let S = g.S.Shelf in
    unopened_cause Chain (S.sees.fault_count c.args.shelf) (S.sees.fault_count c.in-Err.shelf) (g.O.Sink.sees.fault_count c.args.out.now) c.in-Err.fault c.in-Err.ensures.cause

pub returns-in-Err-clause-readings : goal.returns-in-Err-clause-readings
returns-in-Err-clause-readings g c = λ timed.
    let C = g.C.Clock in
    fault_takes Chain (Unit {0}) (C.sees.upcoming c.args.clock) (C.sees.upcoming c.in-Err.clock) c.in-Err.fault (c.in-Err.ensures.clock timed)

-- ---- what is found is told

pub returns-in-Ok-clause-found : goal.returns-in-Ok-clause-found
returns-in-Ok-clause-found g c = λ tells.
    served_told (g.S.Shelf.sees.files c.args.shelf) c.serve_with.result.end c.serve_with.ensures.ends.0 (c.in-Ok.ensures.found tells)
