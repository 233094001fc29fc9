use Rattle.dv_cli.proofs.rebuilding.run_rebuild.Goals as goal

pub returns-clause-rebuilds : goal.returns-clause-rebuilds
returns-clause-rebuilds g c = λ tells settled.
    let did = c.rebuild-rebuilt.ensures in
    let at = did.rebuilds tells in
    record {
      result = c.rebuild-rebuilt.result;
      told = c.rebuilt_end.ensures;
      report = c.rebuilt_told.ensures;
      now = at.now;
      clock = at.clock;
      leaves = at.leaves;
      crash = at.crash settled;
      settled = did.settled tells settled;
      readings = did.clock;
    }
