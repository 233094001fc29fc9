use Rattle.std.proofs.Common.{rules}
use Rattle.dv_front.proofs.Steps.{joins, learns}
use Rattle.dv_front.proofs.pass.join.Goals as goal

pub join_seat-requires : goal.join_seat-requires
join_seat-requires c = (search rules, search rules, search rules, search rules, joins _ _ _ _ _ (search rules) (search rules))

pub load-requires : goal.load-requires
load-requires c = (search rules, search rules, learns _ _ _ _ (search rules) (search rules))
