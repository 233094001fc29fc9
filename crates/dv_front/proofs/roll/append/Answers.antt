use Rattle.std.proofs.Common.{rules}
use Rattle.dv_front.proofs.RollSteps.{appends}
use Rattle.dv_front.proofs.roll.append.Goals as goal

pub store-requires : goal.store-requires
store-requires g c = (search rules, search rules, appends _ _ _ _ _ (search rules) (search rules) (search rules))
