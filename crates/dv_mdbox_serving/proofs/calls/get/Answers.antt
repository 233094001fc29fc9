use Rattle.std.proofs.Common.{Option, sym, subst}
use Rattle.dv_mdbox_lines.specs.declared.answers.Answer.{Answer}
use Rattle.dv_mdbox_serving.specs.Calls.{IsCalled}
use Rattle.dv_mdbox_lines.specs.Scripts.{Get}
use Rattle.dv_mdbox_serving.proofs.Read.{get_called}
use Rattle.dv_mdbox_serving.specs.Groups.{LogsCall}
use Rattle.dv_mdbox_serving.proofs.Logged.{get_logs}
use Rattle.dv_mdbox_serving.proofs.calls.get.Goals as goal

pub returns-clause-called : goal.returns-clause-called
returns-clause-called g c = λ tells start base calls follows.
    let S = g.S.Shelf in
    let done = c.get.ensures in
    let old = c.args.storage.now in
    subst (λ (told : Option Answer). IsCalled S.sees start base calls (Get c.args.id) told old c.get.new.self) (sym c.read_answer.ensures)
    (get_called S.sees start base calls old c.get.new.self follows c.args.id (g.met.S.Shelf.leaves_files old.shelf tells) done.stays (done.looks tells) S.sees.tells tells c.get.result done.gets done.cause)

pub returns-clause-logs : goal.returns-clause-logs
returns-clause-logs g c =
    let old = c.args.storage.now in
    subst (λ (told : Option Answer). LogsCall (Get c.args.id) told old c.get.new.self) (sym c.read_answer.ensures) (get_logs old c.get.new.self c.args.id c.get.result c.get.ensures.stays)
