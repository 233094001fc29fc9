use Rattle.std.proofs.Common.{ℕ, refl, subst, arith}
use Rattle.dv_chain.specs.declared.chain.Chain.{Chain}
use Rattle.dv_serving.specs.Faults.{faults_between, faults_of}
use Rattle.dv_serving.specs.Outputs.{output_of}
use Rattle.dv_serving.proofs.Readings.{readings_give}
use Rattle.dv_threads.specs.Serves.{ServesThreads}
use Rattle.dv_cli.specs.Spans.{times_from}
use Rattle.dv_cli.proofs.Folders.{unopened_cause}
use Rattle.dv_cli.proofs.Timed.{fault_takes}
use Rattle.dv_program.proofs.Served.{serves_by, serving_cause, serving_takes, serving_told}
use Rattle.dv_program.proofs.serving.serve_folder.Goals as goal

-- ---- lines are served

pub returns-in-Ok-clause-runs : goal.returns-in-Ok-clause-runs
returns-in-Ok-clause-runs g c = λ tells settled is_true.
    let S = g.S.Shelf in
    let C = g.C.Clock in
    let O = g.O.Sink in
    let behind = c.serve_threads-end in
    let lines = g.L.Lines.left c.args.lines.now in
    let out = output_of O.sees c.args.out.now behind.new.out in
    rw c.end_by.ensures
    (readings_give (c.in-Ok.ensures.begins tells settled is_true) (λ clock small known begun.
    serves_by S.sees (times_from C.sees clock behind.result.clock) (faults_of S.sees c.args.shelf behind.result.shelf) lines out c.args.shelf behind.result.shelf behind.result.end
    (subst (λ (count : ℕ). ServesThreads S.sees clock C.sees.tells (faults_between count (S.sees.fault_count behind.result.shelf)) lines behind.result.end out c.args.shelf behind.result.shelf) c.faults-start_count.ensures
    (behind.ensures.runs tells clock c.args.shelf begun))))

pub returns-in-Ok-clause-found : goal.returns-in-Ok-clause-found
returns-in-Ok-clause-found g c = λ tells.
    rw c.end_by.ensures (serving_told (g.S.Shelf.sees.files c.args.shelf) c.serve_threads-end.result.end (c.in-Ok.ensures.found tells))

pub returns-in-Ok-clause-cause : goal.returns-in-Ok-clause-cause
returns-in-Ok-clause-cause g c =
    let S = g.S.Shelf in
    let O = g.O.Sink in
    let behind = c.serve_threads-end in
    rw c.end_by.ensures
    (serving_cause (S.sees.fault_count c.args.shelf) (S.sees.fault_count behind.result.shelf) (O.sees.fault_count c.args.out.now) (O.sees.fault_count behind.new.out) behind.result.end
    (omega (arith, behind.ensures.later.0, c.faults-start_count.ensures), behind.ensures.later.1) behind.ensures.cause)

pub returns-in-Ok-clause-readings : goal.returns-in-Ok-clause-readings
returns-in-Ok-clause-readings g c = λ timed.
    rw c.end_by.ensures (serving_takes (g.C.Clock.sees.upcoming c.args.clock) (g.C.Clock.sees.upcoming c.serve_threads-end.result.clock) c.serve_threads-end.result.end)

-- ---- the folder isn't opened

pub returns-in-Err-clause-runs : goal.returns-in-Err-clause-runs
returns-in-Err-clause-runs g c = λ tells settled is_true.
    readings_give (c.in-Err.ensures.begins tells settled is_true) (λ clock small known unopened. (λ told. refl, unopened))

pub returns-in-Err-clause-cause : goal.returns-in-Err-clause-cause
returns-in-Err-clause-cause g c =
    let S = g.S.Shelf in
    unopened_cause Chain (S.sees.fault_count c.args.shelf) (S.sees.fault_count c.in-Err.shelf) (g.O.Sink.sees.fault_count c.args.out.now) c.in-Err.fault c.in-Err.ensures.cause

pub returns-in-Err-clause-readings : goal.returns-in-Err-clause-readings
returns-in-Err-clause-readings g c = λ timed.
    let C = g.C.Clock in
    fault_takes Chain (Unit {0}) (C.sees.upcoming c.args.clock) (C.sees.upcoming c.in-Err.clock) c.in-Err.fault (c.in-Err.ensures.clock timed)
