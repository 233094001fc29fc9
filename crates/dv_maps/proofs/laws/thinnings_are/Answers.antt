use Rattle.dv_maps.proofs.Thinned as thinned
use Rattle.dv_maps.proofs.laws.thinnings_are.Goals as goal

pub returns : goal.returns
returns c = thinned.thinnings_are
