use Rattle.dv_qresync.proofs.Catching.{catches_up}
use Rattle.dv_qresync.proofs.law.replicas_catch_up.Goals as goal

pub returns : goal.returns
returns c = catches_up
