use Rattle.std.proofs.Common.{◌∙◌, Option, ap, sym}
use Rattle.std.proofs.lemmas.Result.{err_from_is_err_and}
use Rattle.dv_logfile.specs.Scans.{GoodLog}
use Rattle.dv_openings.specs.Openings.{in_rotated}
use Rattle.dv_chain.specs.Files.{good_file, snapshot_of}
use Rattle.dv_chain.proofs.Joins.{from_first_file, not_in_first, not_next, uncounted}
use Rattle.dv_chain.proofs.joining.from_earlier.Goals as goal

pub returns-then-not-is_next-clause-given : goal.returns-then-not-is_next-clause-given
returns-then-not-is_next-clause-given c = λ spots before has file none.
    let log = good_file c.args.log.now spots in
    c.from_end.ensures.given spots before has none (not_next log before (snapshot_of c.args.index) (sym c.is_next.ensures ∙ c.if-not-is_next.true))

pub returns-in-Some-2-clause-given : goal.returns-in-Some-2-clause-given
returns-in-Some-2-clause-given c = λ spots before has file none.
    let first = rw c.in-Some.is at file in
    let log = good_file c.args.log.now spots in
    let counts = rw c.in-Some-2.is at (c.in_ok-before-in-Some.ensures.counted first.0 first.1) in
    from_first_file log before (snapshot_of c.args.index) (good_file c.in-Some.first first.0) counts.0 c.from_rotated.result first.2 none (sym c.is_next.ensures ∙ c.if-not-is_next.false) counts.1
    (c.from_rotated.ensures.given spots first.0 counts.0 has first.1 counts.1 counts.2)

pub returns-in-None-2-clause-given : goal.returns-in-None-2-clause-given
returns-in-None-2-clause-given c = λ spots before has file none.
    let first = rw c.in-Some.is at file in
    let log = good_file c.args.log.now spots in
    let s = snapshot_of c.args.index in
    let counts = rw c.in-None-2.is at (c.in_ok-before-in-Some.ensures.counted first.0 first.1) in
    c.from_end-in-None-2.ensures.given spots before has none
    (ap (λ (x : Option GoodLog). in_rotated log x s) first.2 ∙ not_in_first log (good_file c.in-Some.first first.0) s (sym c.is_next.ensures ∙ c.if-not-is_next.false) counts)

pub returns-in_err-before-in-Some-clause-given : goal.returns-in_err-before-in-Some-clause-given
returns-in_err-before-in-Some-clause-given c = λ spots before has file none.
    let p = err_from_is_err_and c.from_residual.result c.from_residual.ensures.1 in
    let first = rw c.in-Some.is at file in
    rw (p.1, p.2)
    (uncounted (good_file c.args.log.now spots) c.in_err-before-in-Some.field-0.0 first.0 _ _ (c.in_err-before-in-Some.ensures.counted first.0 first.1))
