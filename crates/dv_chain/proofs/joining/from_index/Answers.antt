use Rattle.std.proofs.lemmas.Result.{err_from_is_err_and}
use Rattle.dv_openings.specs.Openings.{records_from}
use Rattle.dv_chain.specs.Files.{good_file, snapshot_of}
use Rattle.dv_chain.proofs.Joins.{from_log, not_in_log, not_there, uncounted}
use Rattle.dv_chain.proofs.joining.from_index.Goals as goal

pub returns-then-mark-log-clause-given : goal.returns-then-mark-log-clause-given
returns-then-mark-log-clause-given c = λ spots before has file.
    c.from_earlier.ensures.given spots before has file (not_in_log (good_file c.args.log.now spots) before (snapshot_of c.args.index) c.if-mark-log.true)

pub returns-in-Some-clause-given : goal.returns-in-Some-clause-given
returns-in-Some-clause-given c = λ spots before has file.
    let log = good_file c.args.log.now spots in
    let counts = rw c.in-Some.is at (c.in_ok-before.ensures.counted spots has) in
    from_log log before (snapshot_of c.args.index) counts.0 c.resume.result c.if-mark-log.false counts.1 (c.resume.ensures.given spots counts.0 has counts.1 counts.2)

pub returns-in_err-before-clause-given : goal.returns-in_err-before-clause-given
returns-in_err-before-clause-given c = λ spots before has file.
    let p = err_from_is_err_and c.from_residual.result c.from_residual.ensures.1 in
    rw (p.1, p.2) (uncounted (good_file c.args.log.now spots) c.in_err-before.field-0.0 spots (records_from (good_file c.args.log.now spots) c.args.index.mark.offset) _ (c.in_err-before.ensures.counted spots has))

pub returns-in-None-clause-given : goal.returns-in-None-clause-given
returns-in-None-clause-given c = λ spots before has file.
    let log = good_file c.args.log.now spots in
    let there = rw c.in-None.is at (c.in_ok-before.ensures.counted spots has) in
    c.from_earlier-in-None.ensures.given spots before has file (not_there log before (snapshot_of c.args.index) c.if-mark-log.false there)
