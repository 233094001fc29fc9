use Rattle.std.proofs.lemmas.Result.{err_from_is_err_and}
use Rattle.dv_index.proofs.Ends.{fault_weaker}
use Rattle.dv_index.proofs.Outcomes.{row_fault}
use Rattle.dv_index.proofs.reading.read_text.Goals as goal

pub returns-in_err-mailbox-clause-fault : goal.returns-in_err-mailbox-clause-fault
returns-in_err-mailbox-clause-fault c =
    let p = err_from_is_err_and c.from_residual-in_err-mailbox.result c.from_residual-in_err-mailbox.ensures.1 in
    let tables = c.in_ok-head.ensures.found in
    rw (p.1, p.2) (fault_weaker c.in_err-mailbox.field-0.0 _ _ (row_fault c.in_ok-head.head c.args.b.now c.in_ok-test_header.ensures.passed tables.0 tables.1) c.in_err-mailbox.ensures.fault)
