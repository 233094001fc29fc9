use Rattle.dv_watching.proofs.Searched.{told_is_searched}
use Rattle.dv_watching.proofs.law.told_is_searched.Goals as goal

pub returns : goal.returns
returns c = told_is_searched
