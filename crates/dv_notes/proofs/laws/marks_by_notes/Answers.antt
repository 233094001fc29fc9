use Rattle.dv_notes.proofs.Logs.{marks_by_notes}
use Rattle.dv_notes.proofs.laws.marks_by_notes.Goals as goal

pub returns : goal.returns
returns c = marks_by_notes
