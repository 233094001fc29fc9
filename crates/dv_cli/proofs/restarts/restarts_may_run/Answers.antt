use Rattle.dv_cli.proofs.Restarting.{logs_start}
use Rattle.dv_cli.proofs.restarts.restarts_may_run.Goals as goal

pub returns-clause-premises : goal.returns-clause-premises
returns-clause-premises g c = λ old left next leaves restarted. record { settled = restarted.settled; seen = leaves.after _ restarted.there }

pub returns-clause-starts : goal.returns-clause-starts
returns-clause-starts g c = logs_start
