use Rattle.std.proofs.Common.{Option, sym, subst}
use Rattle.dv_mdbox_lines.specs.declared.answers.Answer.{Answer}
use Rattle.dv_mdbox_serving.specs.Calls.{IsCalled}
use Rattle.dv_mdbox_lines.specs.Scripts.{Save}
use Rattle.dv_mdbox_serving.proofs.Saved.{saved_called}
use Rattle.dv_mdbox_serving.specs.Groups.{LogsCall}
use Rattle.dv_mdbox_serving.proofs.Logged.{save_logs}
use Rattle.dv_mdbox_serving.proofs.calls.save.Goals as goal

pub returns-clause-called : goal.returns-clause-called
returns-clause-called g c = λ tells start base calls follows.
    let S = g.S.Shelf in
    let done = c.save.ensures in
    let k = follows.keeps in
    subst (λ (told : Option Answer). IsCalled S.sees start base calls (Save c.args.message.now) told c.args.storage.now c.save.new.self) (sym c.saved_answer.ensures)
    (saved_called S.sees start base calls c.args.storage.now c.save.new.self follows c.args.message.now c.has_valid_map.ensures S.sees.tells c.save.result done.answers tells done.refused done.value (done.gives tells k.messages k.debt k.rests) done.cause)

pub returns-clause-logs : goal.returns-clause-logs
returns-clause-logs g c =
    let old = c.args.storage.now in
    subst (λ (told : Option Answer). LogsCall (Save c.args.message.now) told old c.save.new.self) (sym c.saved_answer.ensures) (save_logs old c.save.new.self g.S.Shelf.sees c.args.message.now c.save.result c.save.ensures.value)
