use Rattle.dv_events.proofs.Telling.{answer_tells, select_tells, tell_tells}
use Rattle.dv_events.proofs.laws.answers_are_events.Goals as goal

pub returns-clause-answer : goal.returns-clause-answer
returns-clause-answer c = answer_tells

pub returns-clause-select : goal.returns-clause-select
returns-clause-select c = select_tells

pub returns-clause-tell : goal.returns-clause-tell
returns-clause-tell c = tell_tells
