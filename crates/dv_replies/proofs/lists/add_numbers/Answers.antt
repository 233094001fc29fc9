use Rattle.std.proofs.Common.{length}
use Rattle.std.proofs.lemmas.Result.{err_from_is_err_and}
use Rattle.dv_replies.specs.Reading.{each_behind, word_at}
use Rattle.dv_replies.proofs.Loops.{ends, fails, goes_on, too_many}
use Rattle.dv_replies.proofs.lists.add_numbers.Goals as goal

pub returns-in_default : goal.returns-in_default
returns-in_default c =
    let count = length c.args.b.now in
    ends c.args.separator.now word_at c.loop.numbers count c.loop.counter c.loop.rest.now (each_behind c.args.separator.now word_at count c.args.numbers.now c.args.b.now) c.loop-test.true c.in_default.ensures c.loop.invariant

pub returns-in_err-n : goal.returns-in_err-n
returns-in_err-n c =
    let count = length c.args.b.now in
    let p = err_from_is_err_and c.from_residual.result c.from_residual.ensures.1 in
    rw (p.1, p.2) (fails c.args.separator.now word_at c.loop.numbers count c.loop.counter c.loop.rest.now (each_behind c.args.separator.now word_at count c.args.numbers.now c.args.b.now) c.in_err-n.field-0.0 c.in-Some.next.now c.loop-test.true c.in-Some.ensures c.in_err-n.ensures c.loop.invariant)

pub loop-preserved : goal.loop-preserved
loop-preserved c =
    let count = length c.args.b.now in
    rw c.in_ok-push.ensures.ok (goes_on c.args.separator.now word_at c.loop.numbers count c.loop.counter c.loop.rest.now (each_behind c.args.separator.now word_at count c.args.numbers.now c.args.b.now) c.in-Some.next.now c.in_ok-n.end.now c.in_ok-n.n c.loop-test.true c.in-Some.ensures c.in_ok-n.ensures c.loop.invariant)

pub returns : goal.returns
returns c =
    let count = length c.args.b.now in
    too_many c.args.separator.now word_at c.loop.numbers count c.loop.counter c.loop.rest.now (each_behind c.args.separator.now word_at count c.args.numbers.now c.args.b.now) c.loop-test.false c.loop.invariant
