use Rattle.std.proofs.Common.{rules}
use Rattle.dv_front.proofs.RollSteps.{shares}
use Rattle.dv_front.proofs.roll.leaf.Goals as goal

pub split_seat-seat-requires : goal.split_seat-seat-requires
split_seat-seat-requires c = (search rules, search rules, shares _ _ (search rules))
