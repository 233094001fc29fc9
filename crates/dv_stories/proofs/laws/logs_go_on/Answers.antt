use Rattle.std.specs.Prelude.{true}
use Rattle.dv_promises.proofs.Logs.{goes_on_further, last_goes_on, same_log}
use Rattle.dv_stories.proofs.laws.logs_go_on.Goals as goal

pub returns-clause-stays : goal.returns-clause-stays
returns-clause-stays c = same_log

pub returns-clause-further : goal.returns-clause-further
returns-clause-further c = goes_on_further

pub returns-clause-written : goal.returns-clause-written
returns-clause-written c = λ log author command received g m sound is.
    last_goes_on log (record { author = author; command = command; group = g; received = received; running = true }) m sound is
