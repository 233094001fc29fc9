use Rattle.dv_events.proofs.Debts.{kept_owes, nothing_pends, readings_keep_debt}
use Rattle.dv_events.proofs.Writing.{write_moves_debt}
use Rattle.dv_events.proofs.laws.debts_are_pending.Goals as goal

pub returns-clause-kept : goal.returns-clause-kept
returns-clause-kept g c = kept_owes g.S.Shelf.sees g.C.Clock.sees g.K.Keeping.start g.K.Keeping.moment g.K.Keeping.past g.K.Keeping.honest

pub returns-clause-begins : goal.returns-clause-begins
returns-clause-begins g c = nothing_pends

pub returns-clause-write : goal.returns-clause-write
returns-clause-write g c = write_moves_debt g.S.Shelf.sees g.C.Clock.sees g.K.Keeping.start g.K.Keeping.moment g.K.Keeping.past g.K.Keeping.honest

pub returns-clause-reads : goal.returns-clause-reads
returns-clause-reads g c = readings_keep_debt
