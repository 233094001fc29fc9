use Rattle.std.proofs.Common.{refl, sym, ◌∙◌}
use Rattle.dv_apply.proofs.Lending.{bad_by}
use Rattle.dv_apply.proofs.Testing.{err_same, told_by}
use Rattle.dv_apply.specs.declared.share.Way.{Way}
use Rattle.dv_apply.specs.States.{mailbox_of}
use Rattle.dv_apply.proofs.prepare.prepare.Goals as goal

pub returns-in-Ok-clause-refused : goal.returns-in-Ok-clause-refused
returns-in-Ok-clause-refused c = λ x is.
    let never = sym c.in-Ok.is ∙ told_by c.test_records.result (mailbox_of c.args.state.now) c.args.records.now x c.test_records.ensures.memory c.test_records.ensures.bad c.test_records.ensures.ok is in
    absurd cc

pub returns-in-Err-clause-bad : goal.returns-in-Err-clause-bad
returns-in-Err-clause-bad c = bad_by Way c.test_records.result c.in-Err.e _ _ c.in-Err.is c.test_records.ensures.bad (λ x each. each (mailbox_of c.args.state.now) refl)

pub returns-in-Err-clause-refused : goal.returns-in-Err-clause-refused
returns-in-Err-clause-refused c = λ x is.
    err_same Way c.test_records.result c.in-Err.e x c.in-Err.is (told_by c.test_records.result (mailbox_of c.args.state.now) c.args.records.now x c.test_records.ensures.memory c.test_records.ensures.bad c.test_records.ensures.ok is)
