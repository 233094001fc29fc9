use Rattle.std.proofs.Common.{Ok, ap}
use Rattle.std.specs.Prelude.{is_some}
use Rattle.std.proofs.lemmas.Result.{err_from_is_err_and}
use Rattle.dv_logfile.proofs.Spots.{fault_said, log_read, read_bound, read_good, read_log, read_more, told_once}
use Rattle.dv_logfile.proofs.scanning.scan.Goals as goal

-- ---- a record isn't read

pub returns-in_err-record-clause-found : goal.returns-in_err-record-clause-found
returns-in_err-record-clause-found c =
    let p = err_from_is_err_and c.from_residual.result c.from_residual.ensures.1 in
    rw (p.1, p.2) (fault_said c.in-Some.header c.loop-records.places c.loop-records.records c.args.b.now c.loop-records.at c.in_err-record.field-0.0 c.loop-records.invariant c.in_err-record.ensures.fault)

pub returns-in_err-record-clause-only : goal.returns-in_err-record-clause-only
returns-in_err-record-clause-only c = told_once c.args.b.now c.from_residual.result (returns-in_err-record-clause-found c)

pub returns-in_err-record-clause-read : goal.returns-in_err-record-clause-read
returns-in_err-record-clause-read c =
    let p = err_from_is_err_and c.from_residual.result c.from_residual.ensures.1 in
    let told = returns-in_err-record-clause-found c in
    log_read c.args.b.now c.from_residual.result told (rw p.1 tt)

-- ---- a record is read

pub loop-records-preserved : goal.loop-records-preserved
loop-records-preserved c =
    let there = rw c.in-Some-2.is at c.in_ok-record.ensures.record_at in
    let valid = rw c.in-Some-2.is at c.in_ok-record.ensures.valid in
    let b = c.args.b.now in
    rw (c.in_ok-push.ensures.ok, c.in_ok-push-2.ensures.ok)
    (read_more c.in-Some.header c.loop-records.places c.loop-records.records b c.loop-records.at c.in-Some-2.behind c.in-Some-2.record c.loop-records.invariant there.0 there.1 there.2 valid)

-- ---- the end

pub returns-clause-log : goal.returns-clause-log
returns-clause-log c =
    read_log c.in-Some.header c.loop-records.places c.loop-records.records c.args.b.now c.loop-records.at c.loop-records.invariant (c.in_ok-record.ensures.closed (ap is_some c.in_default.is))

pub returns-clause-found : goal.returns-clause-found
returns-clause-found c =
    read_good c.in-Some.header c.loop-records.places c.loop-records.records c.args.b.now c.loop-records.at c.loop-records.invariant (c.in_ok-record.ensures.closed (ap is_some c.in_default.is))

pub returns-clause-only : goal.returns-clause-only
returns-clause-only c = told_once c.args.b.now (Ok _) (returns-clause-found c)

pub returns-clause-bound : goal.returns-clause-bound
returns-clause-bound c = read_bound c.in-Some.header c.loop-records.records c.args.b.now c.loop-records.at (returns-clause-log c)

pub returns-clause-read : goal.returns-clause-read
returns-clause-read c = log_read c.args.b.now (Ok _) (returns-clause-found c) (returns-clause-log c)
