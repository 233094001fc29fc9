use Rattle.dv_maps.proofs.Saving as saving
use Rattle.dv_maps.proofs.laws.saves_are.Goals as goal

pub returns : goal.returns
returns c = saving.saves_are
