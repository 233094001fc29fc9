use Rattle.std.proofs.Common.{rules}
use Rattle.dv_front.proofs.Steps.{seals}
use Rattle.dv_front.proofs.pen.seal.Goals as goal

pub store-requires : goal.store-requires
store-requires c = (search rules, search rules, seals _ _ _ _ _ (search rules) (search rules) (search rules))
