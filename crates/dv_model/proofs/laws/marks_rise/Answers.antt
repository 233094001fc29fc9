use Rattle.dv_model.proofs.Marks as marks
use Rattle.dv_model.proofs.laws.marks_rise.Goals as goal

pub returns-clause-rise : goal.returns-clause-rise
returns-clause-rise c = marks.marks_rise

pub returns-clause-distinct : goal.returns-clause-distinct
returns-clause-distinct c = marks.marks_distinct
