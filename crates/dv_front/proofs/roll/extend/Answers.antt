use Rattle.std.proofs.Common.{rules}
use Rattle.dv_front.proofs.RollSteps.{shares, joins, learns, compares}
use Rattle.dv_front.proofs.roll.extend.Goals as goal

pub split_seat-second-requires : goal.split_seat-second-requires
split_seat-second-requires c = (search rules, search rules, shares _ _ (search rules))

pub join_seat-requires : goal.join_seat-requires
join_seat-requires c = (search rules, search rules, search rules, search rules, joins _ _ _ _ (search rules) (search rules))

pub load-requires : goal.load-requires
load-requires c = (search rules, search rules, learns _ _ _ (search rules) (search rules))

pub split_seat-second-requires-2 : goal.split_seat-second-requires-2
split_seat-second-requires-2 c = (search rules, search rules, shares _ _ (search rules))

pub join_seat-requires-2 : goal.join_seat-requires-2
join_seat-requires-2 c = (search rules, search rules, search rules, search rules, joins _ _ _ _ (search rules) (search rules))

pub load-requires-2 : goal.load-requires-2
load-requires-2 c = (search rules, search rules, compares _ _ _ (search rules))
