use Rattle.dv_cached.proofs.Looking.{looks_true, makes_looks}
use Rattle.dv_cached.proofs.laws.cache_stays_true.Goals as goal

pub returns : goal.returns
returns c = λ folder indexid command m after makes cache. looks_true folder indexid m after cache (makes_looks command m after makes)
