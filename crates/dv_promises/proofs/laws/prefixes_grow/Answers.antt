use Rattle.dv_promises.proofs.Seeing.{all_go_on, answers_as_seen, logs_go_on, seen_rises}
use Rattle.dv_promises.proofs.laws.prefixes_grow.Goals as goal

pub returns-clause-log : goal.returns-clause-log
returns-clause-log c = logs_go_on

pub returns-clause-all : goal.returns-clause-all
returns-clause-all c = all_go_on

pub returns-clause-answers : goal.returns-clause-answers
returns-clause-answers c = answers_as_seen

pub returns-clause-seen : goal.returns-clause-seen
returns-clause-seen c = seen_rises
