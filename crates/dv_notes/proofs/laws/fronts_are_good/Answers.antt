use Rattle.dv_notes.proofs.Notes.{fronts_are_good}
use Rattle.dv_notes.proofs.laws.fronts_are_good.Goals as goal

pub returns : goal.returns
returns c = fronts_are_good
