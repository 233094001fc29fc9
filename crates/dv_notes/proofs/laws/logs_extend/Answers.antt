use Rattle.dv_notes.proofs.Logs.{logs_extend}
use Rattle.dv_notes.proofs.laws.logs_extend.Goals as goal

pub returns : goal.returns
returns c = logs_extend
