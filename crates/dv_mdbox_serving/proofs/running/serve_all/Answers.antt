use Rattle.std.proofs.Common.{◌≡◌, Option, refl, subst}
use Rattle.dv_model.specs.declared.types.Mark.{Mark}
use Rattle.dv_files.specs.declared.texts.Turn.{Turn}
use Rattle.dv_mdbox.specs.States.{StandsAt}
use Rattle.dv_serving.specs.Faults.{faults_between, faults_of}
use Rattle.dv_serving.specs.Outputs.{output_of}
use Rattle.dv_mdbox_lines.specs.Views.{calls_left}
use Rattle.dv_mdbox_serving.specs.Runs.{end_behind}
use Rattle.dv_files.specs.Texts.{place_of}
use Rattle.dv_mdbox_serving.proofs.InTurn.{served_cause, served_ends, serves_folder}
use Rattle.dv_mdbox_serving.proofs.running.serve_all.Goals as goal

stands_new : (mark other place : Mark) (owed : Option Turn) → mark ≡ other → StandsAt mark place owed → StandsAt other place owed
stands_new mark other place owed same stands = subst (λ (m : Mark). StandsAt m place owed) same stands

pub returns-clause-runs : goal.returns-clause-runs
returns-clause-runs g c = λ tells start old begun.
    let S = g.S.Shelf in
    let O = g.O.Sink in
    let served = c.serve_calls-served in
    let new = served.new.storage in
    rw (c.end_behind-end.ensures, c.len.ensures, c.mark-mark.ensures.is, c.parts-shelf.ensures)
    (serves_folder S.sees start (calls_left c.args.calls) (end_behind served.result new) (output_of O.sees c.args.out.now served.new.out) old c.args.storage new new.shelf refl begun served.ensures.later (stands_new c.mark-mark.result new.mark (place_of new.chain) new.owed c.mark-mark.ensures.is c.mark-mark.ensures.stands)
    (served.ensures.serves tells start (S.sees.fault_count old) begun.follows) (served.ensures.settled tells) (g.met.S.Shelf.leaves_files c.args.storage.shelf tells) (g.met.S.Shelf.leaves_files new.shelf tells))

pub returns-clause-ends : goal.returns-clause-ends
returns-clause-ends g c = rw c.end_behind-end.ensures (served_ends c.serve_calls-served.result c.mark-mark.result _)

pub returns-clause-cause : goal.returns-clause-cause
returns-clause-cause g c =
    let S = g.S.Shelf in
    let O = g.O.Sink in
    let served = c.serve_calls-served in
    rw (c.end_behind-end.ensures, c.parts-shelf.ensures)
    (served_cause served.result c.mark-mark.result _ (faults_of S.sees c.args.storage.shelf served.new.storage.shelf) (faults_between (O.sees.fault_count c.args.out.now) (O.sees.fault_count served.new.out)) served.ensures.cause)
