use Rattle.std.proofs.Common.{List, All, [], length, sym, subst, ap, arith}
use Rattle.std.specs.Prelude.{Some}
use Rattle.dv_formats.specs.Scripts.{NamedLine}
use Rattle.dv_serving.specs.Servable.{IsServable}
use Rattle.dv_serving.specs.Outputs.{output_with}
use Rattle.dv_cli.specs.Runs.{RunsOver}
use Rattle.dv_cli.specs.Spans.{times_from}
use Rattle.dv_serving.specs.Faults.{faults_of}
use Rattle.dv_serving.proofs.Readings.{readings_give}
use Rattle.dv_cli.proofs.loading.run_load.Goals as goal

pub run_folder-requires-clause-servable : goal.run_folder-requires-clause-servable
run_folder-requires-clause-servable g c =
    let load = c.args.load in
    subst (All (λ (line : NamedLine). IsServable line.1)) (sym c.generated_lines-lines.ensures.lines) (c.generated_are_servable.ensures.commands load.seed load.count load.sessions)

pub run_folder-requires-clause-few : goal.run_folder-requires-clause-few
run_folder-requires-clause-few g c =
    let load = c.args.load in
    let many = c.generated_are_servable.ensures.count load.seed load.count load.sessions in
    omega (arith, ap (λ (ls : List NamedLine). length ls) c.generated_lines-lines.ensures.lines, many, c.requires.few.few, c.requires.few.short)

pub run_folder-requires-clause-sessions : goal.run_folder-requires-clause-sessions
run_folder-requires-clause-sessions g c = sym c.generated_lines-lines.ensures.sessions

pub returns-clause-runs : goal.returns-clause-runs
returns-clause-runs g c = λ tells settled is_true.
    let S = g.S.Shelf in
    let C = g.C.Clock in
    let o = c.run_folder.result in
    readings_give (c.run_folder.ensures.runs tells settled is_true) (λ clock small told runs.
    subst (λ (ls : List NamedLine). RunsOver S.sees (times_from C.sees clock o.clock) (faults_of S.sees c.args.shelf o.shelf)
    (Some c.args.load) ls o.end (output_with ⊥ [] []) c.args.shelf o.shelf) c.generated_lines-lines.ensures.lines runs)
