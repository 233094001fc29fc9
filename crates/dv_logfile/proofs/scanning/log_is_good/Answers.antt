use Rattle.dv_logfile.proofs.Spots.{log_good, written_good}
use Rattle.dv_logfile.proofs.scanning.log_is_good.Goals as goal

pub returns : goal.returns
returns c = record { log = log_good; written = written_good }
