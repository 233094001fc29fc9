use Rattle.dv_serial.proofs.NextRuns.{give_true}
use Rattle.dv_serial.proofs.laws.next_runs_begin.Goals as goal

pub returns : goal.returns
returns c = give_true
