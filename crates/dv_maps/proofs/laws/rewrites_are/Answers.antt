use Rattle.dv_maps.proofs.Purged as purged
use Rattle.dv_maps.proofs.laws.rewrites_are.Goals as goal

pub returns : goal.returns
returns c = purged.rewrites_are
