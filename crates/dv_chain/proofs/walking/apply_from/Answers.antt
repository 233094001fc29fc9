use Rattle.std.proofs.Common.{ap}
use Rattle.std.specs.Prelude.{is_some}
use Rattle.std.proofs.lemmas.Result.{err_from_is_err_and}
use Rattle.dv_chain.proofs.Walks.{applied_all, applied_refused, applied_unread, applying_more, was_read}
use Rattle.dv_chain.proofs.walking.apply_from.Goals as goal

pub returns-in_err-record-clause-applied : goal.returns-in_err-record-clause-applied
returns-in_err-record-clause-applied c = λ spots end left.
    let p = err_from_is_err_and c.from_residual.result c.from_residual.ensures.1 in
    rw (p.1, p.2)
    (applied_unread c.args.b.now c.args.from c.args.live.mailbox c.loop-live.at c.loop-live.live.mailbox c.in_err-record.field-0.0 c.loop-live.invariant c.in_err-record.ensures.fault spots end left)

pub returns-in_err-applied-clause-applied : goal.returns-in_err-applied-clause-applied
returns-in_err-applied-clause-applied c = λ spots end left.
    let p = err_from_is_err_and c.from_residual-in_err-applied.result c.from_residual-in_err-applied.ensures.1 in
    let b = c.args.b.now in
    let there = rw c.in-Some.is at c.in_ok-record.ensures.record_at in
    let read = was_read b c.loop-live.at c.in-Some.behind c.in-Some.record c.loop-live.invariant.inside there.0 there.2 in
    rw (p.1, p.2)
    (applied_refused b c.args.from c.args.live.mailbox c.loop-live.at c.loop-live.live.mailbox c.in-Some.behind c.in-Some.record c.in_err-applied.field-0.0 c.loop-live.invariant read c.in_err-applied.ensures.refused spots end left)

pub loop-live-preserved : goal.loop-live-preserved
loop-live-preserved c =
    let b = c.args.b.now in
    let there = rw c.in-Some.is at c.in_ok-record.ensures.record_at in
    let read = was_read b c.loop-live.at c.in-Some.behind c.in-Some.record c.loop-live.invariant.inside there.0 there.2 in
    applying_more b c.args.from c.args.live.mailbox c.loop-live.at c.loop-live.live.mailbox c.in-Some.behind c.in-Some.record _ c.loop-live.invariant read there.1 c.in_ok-applied.ensures.ok

pub returns-clause-applied : goal.returns-clause-applied
returns-clause-applied c = λ spots end left.
    applied_all c.args.b.now c.args.from c.args.live.mailbox c.loop-live.at c.loop-live.live.mailbox c.loop-live.invariant (c.in_ok-record.ensures.closed (ap is_some c.in_default.is)) spots end left
