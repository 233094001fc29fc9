use Rattle.std.proofs.lemmas.Result.{err_from_is_err_and}
use Rattle.dv_formats.specs.Parsing.{item_at, item_limit, several}
use Rattle.dv_commands.proofs.Loops.{ends, fails, goes_on, too_many}
use Rattle.dv_commands.proofs.items.read_items.Goals as goal

pub returns-in_err-item : goal.returns-in_err-item
returns-in_err-item c =
    let p = err_from_is_err_and c.from_residual.result c.from_residual.ensures.1 in
    rw (p.1, p.2) (fails c.in_err-item.field-0.0 item_at c.loop.items item_limit c.loop.counter c.loop.rest.now (several item_at item_limit c.args.b.now) c.loop-test.true c.in_err-item.ensures c.loop.invariant)

pub returns-in_default : goal.returns-in_default
returns-in_default c =
    rw c.in_ok-push.ensures.ok (ends item_at c.loop.items item_limit c.loop.counter c.loop.rest.now c.in_ok-item.item c.in_ok-item.end.now (several item_at item_limit c.args.b.now) c.loop-test.true c.in_ok-item.ensures c.in_default.ensures c.loop.invariant)

pub loop-preserved : goal.loop-preserved
loop-preserved c =
    rw c.in_ok-push.ensures.ok (goes_on item_at c.loop.items item_limit c.loop.counter c.loop.rest.now c.in_ok-item.item c.in_ok-item.end.now c.in-Some.next.now (several item_at item_limit c.args.b.now) c.loop-test.true c.in_ok-item.ensures c.in-Some.ensures c.loop.invariant)

pub returns : goal.returns
returns c = too_many item_at c.loop.items item_limit c.loop.counter c.loop.rest.now (several item_at item_limit c.args.b.now) c.loop-test.false c.loop.invariant
