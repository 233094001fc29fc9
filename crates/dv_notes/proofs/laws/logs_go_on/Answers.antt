use Rattle.dv_notes.proofs.Logs.{logs_go_on}
use Rattle.dv_notes.proofs.laws.logs_go_on.Goals as goal

pub returns : goal.returns
returns c = logs_go_on
