use Rattle.dv_notices.proofs.reports.put_validity.Goals as goal

pub returns-in-Kept : goal.returns-in-Kept
returns-in-Kept c = rw c.in-Kept.is c.put_around.ensures

pub returns-in-New : goal.returns-in-New
returns-in-New c = rw c.in-New.is c.put_around-in-New.ensures
