use Rattle.dv_schedules.proofs.Calls.{answer_reads, answer_writes}
use Rattle.dv_schedules.proofs.laws.answers_are_events.Goals as goal

pub returns-clause-reads : goal.returns-clause-reads
returns-clause-reads c = answer_reads

pub returns-clause-writes : goal.returns-clause-writes
returns-clause-writes c = answer_writes
