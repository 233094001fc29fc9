use Rattle.std.proofs.Common.{ℕ, ◌∙◌, ap, inl, inr, refl, subst, sym, arith}
use Rattle.dv_chain.specs.declared.chain.Chain.{Chain}
use Rattle.dv_serving.specs.Faults.{faults_between}
use Rattle.dv_serving.specs.Outputs.{output_of}
use Rattle.dv_serving.proofs.Readings.{readings_give}
use Rattle.dv_pop3_serving.specs.Serves.{ServesPop}
use Rattle.dv_cli.specs.Causes.{FolderCause}
use Rattle.dv_cli.proofs.Folders.{unopened_cause}
use Rattle.dv_cli.proofs.Timed.{fault_takes}
use Rattle.dv_program.specs.Pop3.{IsDiskCaused, pop_end}
use Rattle.dv_program.proofs.Maildrops.{disk_caused}
use Rattle.dv_program.proofs.pop3.serve_folder.Goals as goal

-- ---- lines are answered

pub returns-in-Ok-clause-runs : goal.returns-in-Ok-clause-runs
returns-in-Ok-clause-runs g c = λ tells settled is_true.
    let S = g.S.Shelf in
    let C = g.C.Clock in
    let O = g.O.Sink in
    let behind = c.serve_pop3-end in
    let how = behind.result.end in
    let lines = c.args.lines in
    let first = c.faults-start_count.result in
    let now = S.sees.fault_count behind.result.shelf in
    let out = output_of O.sees c.args.out.now behind.new.out in
    readings_give (c.in-Ok.ensures.begins tells settled is_true) (λ clock small known begun.
    let serves = behind.ensures.runs tells clock c.args.shelf begun in
    let caused = disk_caused S.sees clock C.sees.tells (faults_between first now) lines how out c.args.shelf behind.result.shelf serves in
    inr (record {
      how = how;
      is = c.pop_end.ensures.is (subst (λ (n : ℕ). IsDiskCaused first n how) (sym c.faults-count.ensures) caused) ∙ ap (λ (n : ℕ). pop_end n how) c.faults-count.ensures;
      serves = subst (λ (n : ℕ). ServesPop S.sees clock C.sees.tells (faults_between n now) lines how out c.args.shelf behind.result.shelf) c.faults-start_count.ensures serves;
    }))

pub returns-in-Ok-clause-found : goal.returns-in-Ok-clause-found
returns-in-Ok-clause-found g c = λ tells. c.pop_end.ensures.found (g.S.Shelf.sees.files c.args.shelf) (c.in-Ok.ensures.found tells)

pub returns-in-Ok-clause-cause : goal.returns-in-Ok-clause-cause
returns-in-Ok-clause-cause g c =
    let behind = c.serve_pop3-end in
    let out = g.O.Sink.sees.fault_count c.args.out.now in
    let out_now = g.O.Sink.sees.fault_count behind.new.out in
    record {
      later = (omega (arith, behind.ensures.later.0, c.faults-start_count.ensures), behind.ensures.later.1);
      cause = subst (λ (n : ℕ). FolderCause n (g.S.Shelf.sees.fault_count behind.result.shelf) out out_now c.pop_end.result) c.faults-start_count.ensures
          (subst (λ (n : ℕ). FolderCause c.faults-start_count.result n out out_now c.pop_end.result) c.faults-count.ensures
          (c.pop_end.ensures.cause out out_now behind.ensures.cause));
    }

pub returns-in-Ok-clause-readings : goal.returns-in-Ok-clause-readings
returns-in-Ok-clause-readings g c = λ timed.
    c.pop_end.ensures.readings (g.C.Clock.sees.upcoming c.args.clock) (g.C.Clock.sees.upcoming c.serve_pop3-end.result.clock)

-- ---- the folder isn't opened

pub returns-in-Err-clause-runs : goal.returns-in-Err-clause-runs
returns-in-Err-clause-runs g c = λ tells settled is_true.
    readings_give (c.in-Err.ensures.begins tells settled is_true) (λ clock small known unopened.
    inl (record { why = c.in-Err.fault; is = refl; unwritten = λ told. refl; leaves = unopened }))

pub returns-in-Err-clause-cause : goal.returns-in-Err-clause-cause
returns-in-Err-clause-cause g c =
    let S = g.S.Shelf in
    unopened_cause Chain (S.sees.fault_count c.args.shelf) (S.sees.fault_count c.in-Err.shelf) (g.O.Sink.sees.fault_count c.args.out.now) c.in-Err.fault c.in-Err.ensures.cause

pub returns-in-Err-clause-readings : goal.returns-in-Err-clause-readings
returns-in-Err-clause-readings g c = λ timed other.
    let C = g.C.Clock in
    fault_takes Chain (Unit {0}) (C.sees.upcoming c.args.clock) (C.sees.upcoming c.in-Err.clock) c.in-Err.fault (c.in-Err.ensures.clock timed)
