use Rattle.dv_threads.proofs.Sessions as sessions
use Rattle.dv_threads.proofs.laws.sessions_write_one_log.Goals as goal

pub returns-clause-log : goal.returns-clause-log
returns-clause-log c = sessions.sessions_write_one_log

pub returns-clause-few : goal.returns-clause-few
returns-clause-few c = sessions.few_are_unavailable
