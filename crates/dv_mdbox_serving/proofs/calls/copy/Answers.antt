use Rattle.std.proofs.Common.{◌+◌, Option, sym, subst}
use Rattle.dv_mdbox_lines.specs.declared.answers.Answer.{Answer}
use Rattle.dv_mdbox_serving.specs.Calls.{IsCalled}
use Rattle.dv_mdbox_lines.specs.Scripts.{Copy}
use Rattle.dv_mdbox_serving.proofs.Counted.{counted_called, is_copy}
use Rattle.dv_mdbox_serving.specs.Groups.{LogsCall}
use Rattle.dv_mdbox_serving.proofs.Logged.{copy_is, count_logs}
use Rattle.dv_mdbox_serving.proofs.calls.copy.Goals as goal

pub returns-clause-called : goal.returns-clause-called
returns-clause-called g c = λ tells start base calls follows.
    let S = g.S.Shelf in
    let done = c.copy.ensures in
    let old = c.args.storage.now in
    subst (λ (told : Option Answer). IsCalled S.sees start base calls (Copy c.args.id) told old c.copy.new.self) (sym c.counted_answer.ensures)
    (counted_called S.sees start base calls old c.copy.new.self follows (Copy c.args.id) c.args.id 65535 (λ n. n + 1) (is_copy c.args.id) (λ f left. g.met.S.Shelf.only_now old.shelf f tells left)
    c.copy.result done.answers done.refused done.value (done.gives tells) done.cause)

pub returns-clause-logs : goal.returns-clause-logs
returns-clause-logs g c =
    let done = c.copy.ensures in
    let old = c.args.storage.now in
    let new = c.copy.new.self in
    subst (λ (told : Option Answer). LogsCall (Copy c.args.id) told old new) (sym c.counted_answer.ensures)
    (count_logs old new (Copy c.args.id) c.args.id 65535 (λ n. n + 1) (copy_is old new c.args.id) c.copy.result done.answers done.refused done.value)
