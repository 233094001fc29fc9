use Rattle.std.proofs.Common.{subst, sym}
use Rattle.dv_rows.specs.Adding.{AreGiven}
use Rattle.dv_rows.proofs.GivenPlaces.{given_none}
use Rattle.dv_rows.proofs.adding.add_to.Goals as goal

pub returns-in-Err-clause-err : goal.returns-in-Err-clause-err
returns-in-Err-clause-err c =
    let rows = c.args.rows.now in
    c.take_back.ensures c.args.modseq rows
    (c.in-Err.ensures.given rows (subst (AreGiven c.args.place c.args.modseq rows rows) (sym c.new-given.ensures.items) (given_none c.args.place c.args.modseq rows)))
