use Rattle.std.proofs.Common.{◌∙◌, ◌+◌, ◌<◌, length, subst, sym}
use Rattle.std.proofs.lemmas.Bool.{false≢true}
use Rattle.dv_touched.specs.Telling.{Differs}
use Rattle.dv_touched.proofs.Told.{ArePicked, picks_end, picks_none, picks_one}
use Rattle.dv_touched.proofs.merging.differing.Goals.{then-differs+in_ok-push, else-differs}
use Rattle.dv_touched.proofs.merging.differing.Goals as goal

pub loop-uid-preserved : goal.loop-uid-preserved
loop-uid-preserved c =
    let P = Differs c.args.old.now.rows c.args.new.now.rows in
    let uids = c.args.uids.now in
    let i = c.loop-uid.uid-index in
    let less : i < length uids = c.loop-uid-test.true in
    elim c.if-differs.branch [
      | then-differs+in_ok-push w ↦
          rw w.made-is (subst (ArePicked P uids (i + 1)) (sym w.in_ok-push.ensures.items) (picks_one P uids i c.loop-uid.made.items c.requires less c.loop-uid.invariant (c.differs.ensures.0 w.if-differs.true)))
      | else-differs w ↦ rw w.made-is (picks_none P uids i c.loop-uid.made.items less c.loop-uid.invariant (λ p. false≢true (sym w.if-differs.false ∙ c.differs.ensures.1 p)))
    ]

pub returns-clause-is : goal.returns-clause-is
returns-clause-is c = picks_end (Differs c.args.old.now.rows c.args.new.now.rows) c.args.uids.now c.loop-uid.uid-index c.loop-uid.made.items c.loop-uid-test.false c.loop-uid.invariant
