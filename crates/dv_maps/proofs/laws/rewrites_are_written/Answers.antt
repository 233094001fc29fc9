use Rattle.dv_maps.proofs.Respelled as respelled
use Rattle.dv_maps.proofs.laws.rewrites_are_written.Goals as goal

pub returns : goal.returns
returns c = respelled.rewrites_written
