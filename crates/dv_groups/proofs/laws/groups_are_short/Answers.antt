use Rattle.dv_groups.proofs.Short.{group_is_short}
use Rattle.dv_groups.proofs.laws.groups_are_short.Goals as goal

pub returns : goal.returns
returns c = group_is_short
