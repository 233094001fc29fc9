use Rattle.dv_rows.proofs.Filtered.{none_missing, none_missing_before, not_off}
use Rattle.dv_rows.proofs.parting.first_missing.Goals as goal

pub returns-then-lacks-clause-before : goal.returns-then-lacks-clause-before
returns-then-lacks-clause-before c =
    none_missing_before c.args.uids.now c.args.part.now.rows c.args.rows.now c.loop-uid.uid-index c.place_from.result c.requires.rising c.loop-uid-test.true c.place_from.ensures.inside c.place_from.ensures.is c.loop-uid.invariant

pub loop-uid-preserved : goal.loop-uid-preserved
loop-uid-preserved c =
    none_missing c.args.uids.now c.args.part.now.rows c.args.rows.now c.loop-uid.uid-index c.loop-uid-test.true (not_off _ _ c.lacks.ensures c.if-lacks.false) c.loop-uid.invariant
