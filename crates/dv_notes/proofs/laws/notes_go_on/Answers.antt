use Rattle.dv_notes.proofs.Notes.{notes_go_on}
use Rattle.dv_notes.proofs.laws.notes_go_on.Goals as goal

pub returns : goal.returns
returns c = notes_go_on
