use Rattle.dv_live.proofs.Searched.{kept_is_searched}
use Rattle.dv_live.proofs.law.kept_is_searched.Goals as goal

pub returns : goal.returns
returns c = kept_is_searched
