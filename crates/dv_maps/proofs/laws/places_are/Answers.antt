use Rattle.dv_maps.proofs.Placing as placing
use Rattle.dv_maps.proofs.laws.places_are.Goals as goal

pub returns : goal.returns
returns c = placing.places_are
