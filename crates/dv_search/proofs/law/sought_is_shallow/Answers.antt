use Rattle.dv_search.proofs.Depths.{sought_levels}
use Rattle.dv_search.proofs.law.sought_is_shallow.Goals as goal

pub returns : goal.returns
returns c = sought_levels
