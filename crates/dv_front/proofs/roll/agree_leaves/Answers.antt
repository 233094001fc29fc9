use Rattle.std.proofs.Common.{rules}
use Rattle.dv_front.proofs.RollSteps.{shares, joins, compares}
use Rattle.dv_front.proofs.roll.agree_leaves.Goals as goal

pub split_seat-second-requires : goal.split_seat-second-requires
split_seat-second-requires c = (search rules, search rules, shares _ _ (search rules))

pub join_seat-requires : goal.join_seat-requires
join_seat-requires c = (search rules, search rules, search rules, search rules, joins _ _ _ _ (search rules) (search rules))

pub load-requires : goal.load-requires
load-requires c = (search rules, search rules, compares _ _ _ (search rules))
