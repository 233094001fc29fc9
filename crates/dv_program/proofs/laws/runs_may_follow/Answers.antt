use Rattle.dv_program.proofs.NextRuns.{pop3_goes_on, threads_go_on}
use Rattle.dv_program.proofs.laws.runs_may_follow.Goals as goal

pub returns-clause-threads : goal.returns-clause-threads
returns-clause-threads g c = threads_go_on g.S.Shelf.sees g.O.Sink.sees g.C.Clock.sees c.runs_may_follow.ensures.runs

pub returns-clause-pop3 : goal.returns-clause-pop3
returns-clause-pop3 g c = pop3_goes_on g.S.Shelf.sees g.O.Sink.sees g.C.Clock.sees c.runs_may_follow.ensures.runs
