use Rattle.dv_cli.proofs.NextRuns.{rebuilds_go_on, runs_go_on}
use Rattle.dv_cli.proofs.restarts.runs_may_follow.Goals as goal

pub returns-clause-runs : goal.returns-clause-runs
returns-clause-runs g c = runs_go_on g.S.Shelf.sees g.O.Sink.sees g.C.Clock.sees

pub returns-clause-rebuilds : goal.returns-clause-rebuilds
returns-clause-rebuilds g c = rebuilds_go_on g.S.Shelf.sees g.O.Sink.sees g.C.Clock.sees
