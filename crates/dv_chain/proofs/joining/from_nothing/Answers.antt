use Rattle.std.proofs.Common.{ap}
use Rattle.dv_apply.specs.States.{Held}
use Rattle.dv_chain.specs.Files.{good_file}
use Rattle.dv_chain.proofs.Joins.{both_applied, too_late}
use Rattle.dv_chain.proofs.joining.from_nothing.Goals as goal

pub returns-then-log-ne2-clause-given : goal.returns-then-log-ne2-clause-given
returns-then-log-ne2-clause-given c = λ spots before has file.
    let first = rw c.in-Some.is at file in
    too_late (good_file c.args.log.now spots) (good_file c.in-Some.first first.0) before first.2 c.if-log-eq1.false c.if-log-ne2.true

pub returns-in_ok-live-in-Some-clause-given : goal.returns-in_ok-live-in-Some-clause-given
returns-in_ok-live-in-Some-clause-given c = λ spots before has file.
    let first = rw c.in-Some.is at file in
    both_applied (good_file c.args.log.now spots) (good_file c.in-Some.first first.0) before first.2 c.if-log-eq1.false c.empty-live.result.mailbox c.in_ok-live-in-Some.live.mailbox c.apply_all-in-Some-2.result
    c.if-log-ne2.false (ap (λ (live : Held). live.mailbox) c.empty-live.ensures) (c.in_ok-live-in-Some.ensures.applied first.0 first.1) (c.apply_all-in-Some-2.ensures.applied spots has)
