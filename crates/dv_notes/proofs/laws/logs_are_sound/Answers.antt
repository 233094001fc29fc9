use Rattle.dv_notes.proofs.Logs.{logs_are_sound}
use Rattle.dv_notes.proofs.laws.logs_are_sound.Goals as goal

pub returns : goal.returns
returns c = logs_are_sound
