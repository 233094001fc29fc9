use Rattle.dv_live.proofs.Searched.{groups_become, touched_are_followed}
use Rattle.dv_live.proofs.law.touched_are_followed.Goals as goal

pub returns : goal.returns
returns c = record { follows = touched_are_followed; groups = groups_become }
