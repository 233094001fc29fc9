use Rattle.dv_live.proofs.Searched.{turns_are_searched}
use Rattle.dv_live.proofs.law.turns_are_searched.Goals as goal

pub returns : goal.returns
returns c = turns_are_searched
