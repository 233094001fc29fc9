use Rattle.dv_events.proofs.Writing.{refused_write_loads, spent_write_stands, untold_write_stays, write_tells}
use Rattle.dv_events.proofs.laws.writes_are_events.Goals as goal

pub returns-clause-told : goal.returns-clause-told
returns-clause-told g c = write_tells g.S.Shelf.sees g.C.Clock.sees g.K.Keeping.start g.K.Keeping.moment g.K.Keeping.past g.K.Keeping.honest g.K.Keeping.count

pub returns-clause-refused : goal.returns-clause-refused
returns-clause-refused g c = refused_write_loads g.S.Shelf.sees g.C.Clock.sees g.K.Keeping.start g.K.Keeping.moment g.K.Keeping.past g.K.Keeping.honest

pub returns-clause-untold : goal.returns-clause-untold
returns-clause-untold g c = untold_write_stays g.S.Shelf.sees g.C.Clock.sees g.K.Keeping.start g.K.Keeping.moment g.K.Keeping.past g.K.Keeping.honest

pub returns-clause-spent : goal.returns-clause-spent
returns-clause-spent g c = spent_write_stands g.S.Shelf.sees g.C.Clock.sees g.K.Keeping.start g.K.Keeping.moment g.K.Keeping.past g.K.Keeping.honest
