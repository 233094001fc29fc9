use Rattle.dv_model.proofs.SerialSessions.{serial_is_spoken}
use Rattle.dv_model.proofs.laws.serial_is_spoken.Goals as goal

pub returns : goal.returns
returns c = serial_is_spoken
