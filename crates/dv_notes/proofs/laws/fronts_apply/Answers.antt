use Rattle.dv_notes.proofs.Notes.{fronts_apply}
use Rattle.dv_notes.proofs.laws.fronts_apply.Goals as goal

pub returns : goal.returns
returns c = fronts_apply
