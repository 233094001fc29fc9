use Rattle.dv_rebuild.proofs.rebuilding.rebuild.Goals as goal

pub returns-clause-rebuilds : goal.returns-clause-rebuilds
returns-clause-rebuilds g c = λ tells. record {
  now = c.now-now.result;
  clock = λ told. c.now-now.ensures.reading told;
  leaves = c.rebuild_at.ensures.files tells;
  crash = λ settled. c.rebuild_at.ensures.since tells settled;
}
