use Rattle.std.proofs.Common.{List, ℕ, drop, subst, Err}
use Rattle.std.proofs.lemmas.Result.{err_from_is_err_and}
use Rattle.dv_model.specs.declared.types.Record.{Record}
use Rattle.dv_records.specs.Faults.{IsFault, IsRecordAt, OnFault}
use Rattle.dv_records.proofs.Decoded.{is_that, no_fault_there, no_record_there}
use Rattle.dv_records.proofs.Written.{is_record}
use Rattle.dv_records.proofs.decoding.decode.Goals as goal

pub returns-in_err-record-clause-only : goal.returns-in_err-record-clause-only
returns-in_err-record-clause-only c =
    let p = err_from_is_err_and c.from_residual.result c.from_residual.ensures.1 in
    let fault : OnFault {A = Record × ℕ} (Err c.in_err-record.field-0.0) (λ f. IsFault f (drop c.args.at c.args.b.now)) =
    subst (λ (t : List ℕ). OnFault {A = Record × ℕ} (Err c.in_err-record.field-0.0) (λ f. IsFault f t)) c.split_at.ensures.back c.in_err-record.ensures.fault in
    rw (p.1, p.2) (λ r text rest spells e. no_fault_there (drop c.args.at c.args.b.now) c.in_err-record.field-0.0 fault r text rest _ spells e)

pub returns-clause-valid : goal.returns-clause-valid
returns-clause-valid c = is_record c.in_ok-record.record _ c.in_ok-record.ensures.found.1

pub returns-clause-only : goal.returns-clause-only
returns-clause-only c =
    let is : IsRecordAt c.in_ok-record.record c.in_ok-record.size (drop c.args.at c.args.b.now) =
    subst (λ (t : List ℕ). IsRecordAt c.in_ok-record.record c.in_ok-record.size t) c.split_at.ensures.back c.in_ok-record.ensures.found in
    is_that (drop c.args.at c.args.b.now) c.args.at c.in_ok-record.size c.in_ok-record.record is

pub returns-clause-every : goal.returns-clause-every
returns-clause-every c =
    let is : IsRecordAt c.in_ok-record.record c.in_ok-record.size (drop c.args.at c.args.b.now) =
    subst (λ (t : List ℕ). IsRecordAt c.in_ok-record.record c.in_ok-record.size t) c.split_at.ensures.back c.in_ok-record.ensures.found in
    no_record_there (drop c.args.at c.args.b.now) c.in_ok-record.size c.in_ok-record.record _ is
