use Rattle.std.proofs.Common.{◌-◌, Option, sym, subst}
use Rattle.dv_mdbox_lines.specs.declared.answers.Answer.{Answer}
use Rattle.dv_mdbox_serving.specs.Calls.{IsCalled}
use Rattle.dv_mdbox_lines.specs.Scripts.{Drop}
use Rattle.dv_mdbox_serving.proofs.Counted.{counted_called, is_drop}
use Rattle.dv_mdbox_serving.specs.Groups.{LogsCall}
use Rattle.dv_mdbox_serving.proofs.Logged.{count_logs, drop_is}
use Rattle.dv_mdbox_serving.proofs.calls.drop_one.Goals as goal

pub returns-clause-called : goal.returns-clause-called
returns-clause-called g c = λ tells start base calls follows.
    let S = g.S.Shelf in
    let done = c.drop_one.ensures in
    let old = c.args.storage.now in
    subst (λ (told : Option Answer). IsCalled S.sees start base calls (Drop c.args.id) told old c.drop_one.new.self) (sym c.counted_answer.ensures)
    (counted_called S.sees start base calls old c.drop_one.new.self follows (Drop c.args.id) c.args.id 65536 (λ n. n - 1) (is_drop c.args.id) (λ f left. g.met.S.Shelf.only_now old.shelf f tells left)
    c.drop_one.result done.answers done.refused done.value (done.gives tells) done.cause)

pub returns-clause-logs : goal.returns-clause-logs
returns-clause-logs g c =
    let done = c.drop_one.ensures in
    let old = c.args.storage.now in
    let new = c.drop_one.new.self in
    subst (λ (told : Option Answer). LogsCall (Drop c.args.id) told old new) (sym c.counted_answer.ensures)
    (count_logs old new (Drop c.args.id) c.args.id 65536 (λ n. n - 1) (drop_is old new c.args.id) c.drop_one.result done.answers done.refused done.value)
