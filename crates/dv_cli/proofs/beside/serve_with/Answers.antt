use Rattle.std.proofs.Common.{ℕ, sym, subst}
use Rattle.dv_serving.specs.Faults.{Faults}
use Rattle.dv_serving.specs.Outputs.{output_of}
use Rattle.dv_serving.specs.Readings.{AtReadings}
use Rattle.dv_cli.specs.declared.beside.Beside.{Beside}
use Rattle.dv_cli.specs.Beside.{MayStand, ServesWith}
use Rattle.dv_cli.specs.Spans.{times_from}
use Rattle.dv_cli.proofs.beside.serve_with.Goals as goal

pub serve_beside-requires-clause-kept : goal.serve_beside-requires-clause-kept
serve_beside-requires-clause-kept g c = subst MayStand c.in-Search.is c.requires.stands

pub returns-in-Nothing-clause-runs : goal.returns-in-Nothing-clause-runs
returns-in-Nothing-clause-runs g c = λ tells clock old small begun base later.
    let S = g.S.Shelf in
    let C = g.C.Clock in
    let O = g.O.Sink in
    let o = c.serve_lines.result in
    let faults : Faults = record { before = base; now = S.sees.fault_count o.shelf } in
    subst (λ (b : Beside). AtReadings C.sees.tells clock (λ (readings : ℕ → ℕ).
    ServesWith b S.sees (times_from C.sees readings o.clock) faults (g.L.Lines.left c.args.lines.now) o.end
    (output_of O.sees c.args.out.now c.serve_lines.new.out) old o.shelf)) (sym c.in-Nothing.is)
    (c.serve_lines.ensures.runs tells clock old small begun base later)

pub returns-in-Load-clause-runs : goal.returns-in-Load-clause-runs
returns-in-Load-clause-runs g c = λ tells clock old small begun base later.
    let S = g.S.Shelf in
    let C = g.C.Clock in
    let O = g.O.Sink in
    let o = c.serve_lines-in-Load.result in
    let faults : Faults = record { before = base; now = S.sees.fault_count o.shelf } in
    subst (λ (b : Beside). AtReadings C.sees.tells clock (λ (readings : ℕ → ℕ).
    ServesWith b S.sees (times_from C.sees readings o.clock) faults (g.L.Lines.left c.args.lines.now) o.end
    (output_of O.sees c.args.out.now c.serve_lines-in-Load.new.out) old o.shelf)) (sym c.in-Load.is)
    (c.serve_lines-in-Load.ensures.runs tells clock old small begun base later)

pub returns-in-Search-clause-runs : goal.returns-in-Search-clause-runs
returns-in-Search-clause-runs g c = λ tells clock old small begun base later.
    let S = g.S.Shelf in
    let C = g.C.Clock in
    let O = g.O.Sink in
    let o = c.serve_beside.result in
    let faults : Faults = record { before = base; now = S.sees.fault_count o.shelf } in
    subst (λ (b : Beside). AtReadings C.sees.tells clock (λ (readings : ℕ → ℕ).
    ServesWith b S.sees (times_from C.sees readings o.clock) faults (g.L.Lines.left c.args.lines.now) o.end
    (output_of O.sees c.args.out.now c.serve_beside.new.out) old o.shelf)) (sym c.in-Search.is)
    (c.serve_beside.ensures.runs tells clock old small begun base later)
