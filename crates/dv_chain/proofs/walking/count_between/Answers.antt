use Rattle.std.proofs.Common.{ap, subst, arith}
use Rattle.std.specs.Prelude.{is_some}
use Rattle.std.proofs.lemmas.Result.{err_from_is_err_and}
use Rattle.dv_chain.proofs.Walks.{Counting, counted_beyond, counted_here, counted_past, counted_unread, counting_more, was_read}
use Rattle.dv_chain.proofs.walking.count_between.Goals as goal

pub returns-in_err-behind-clause-counted : goal.returns-in_err-behind-clause-counted
returns-in_err-behind-clause-counted c = λ spots end left.
    let p = err_from_is_err_and c.from_residual.result c.from_residual.ensures.1 in
    rw (p.1, p.2)
    (counted_unread c.args.b.now c.args.from c.args.place c.loop-at.at c.loop-at.count c.in_err-behind.field-0.0 c.loop-at.invariant c.in_err-behind.ensures.fault spots end left)

pub loop-at-preserved : goal.loop-at-preserved
loop-at-preserved c =
    let b = c.args.b.now in
    let skips = rw c.in-Some.is at c.in_ok-behind.ensures.skipped in
    let read = was_read b c.loop-at.at c.in-Some.behind skips.is c.loop-at.invariant.inside skips.rises.0 skips.there in
    counting_more b c.args.from c.args.place c.loop-at.at c.in-Some.behind c.loop-at.count skips.is c.loop-at.invariant read skips.rises.1 c.loop-at-test.true

pub returns-in-None-clause-counted : goal.returns-in-None-clause-counted
returns-in-None-clause-counted c = λ spots end left.
    counted_past c.args.b.now c.args.from c.args.place c.loop-at.at c.loop-at.count c.loop-at.invariant c.loop-at-test.true (c.in_ok-behind.ensures.closed (ap is_some c.in-None.is)) spots end left

pub returns-then-at-place-clause-counted : goal.returns-then-at-place-clause-counted
returns-then-at-place-clause-counted c = λ spots end left.
    let here = subst (λ n. Counting c.args.b.now c.args.from c.args.place n c.loop-at.count) c.if-at-place.true c.loop-at.invariant in
    counted_here c.args.b.now c.args.from c.args.place c.loop-at.count here spots end left

pub returns-else-at-place-clause-counted : goal.returns-else-at-place-clause-counted
returns-else-at-place-clause-counted c = λ spots end left.
    counted_beyond c.args.b.now c.args.from c.args.place c.loop-at.at c.loop-at.count c.loop-at.invariant (omega arith) spots end left
