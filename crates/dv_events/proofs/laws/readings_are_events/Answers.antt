use Rattle.dv_events.proofs.Selecting.{select_and_read_tells, unread_select_tells}
use Rattle.dv_events.proofs.Telling.{mail_tells}
use Rattle.dv_events.proofs.laws.readings_are_events.Goals as goal

pub returns-clause-mail : goal.returns-clause-mail
returns-clause-mail g c = mail_tells g.S.Shelf.sees g.C.Clock.sees g.K.Keeping.start g.K.Keeping.moment g.K.Keeping.past g.K.Keeping.honest g.K.Keeping.count

pub returns-clause-select : goal.returns-clause-select
returns-clause-select g c = select_and_read_tells g.S.Shelf.sees g.C.Clock.sees g.K.Keeping.start g.K.Keeping.moment g.K.Keeping.past g.K.Keeping.honest g.K.Keeping.count

pub returns-clause-unread : goal.returns-clause-unread
returns-clause-unread g c = unread_select_tells g.K.Keeping.start g.K.Keeping.count
