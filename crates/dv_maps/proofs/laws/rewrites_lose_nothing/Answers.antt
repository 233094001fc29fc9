use Rattle.dv_maps.proofs.Kept as kept
use Rattle.dv_maps.proofs.Thinned as thinned
use Rattle.dv_maps.proofs.laws.rewrites_lose_nothing.Goals as goal

pub returns-clause-thin : goal.returns-clause-thin
returns-clause-thin c = thinned.rewrites_thin

pub returns-clause-keep : goal.returns-clause-keep
returns-clause-keep c = kept.rewrites_keep
