use Rattle.std.proofs.Common.{rules}
use Rattle.dv_front.proofs.Steps.{shares}
use Rattle.dv_front.proofs.pass.split.Goals as goal

pub split_seat-seat-requires : goal.split_seat-seat-requires
split_seat-seat-requires c = (search rules, search rules, shares _ _ _ (search rules))
