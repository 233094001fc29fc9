use Rattle.std.proofs.Common.{rules}
use Rattle.dv_front.proofs.Steps.{publishes}
use Rattle.dv_front.proofs.pen.publish.Goals as goal

pub store-requires : goal.store-requires
store-requires g c = (search rules, search rules, publishes _ _ _ _ _ _ (search rules) (search rules) (search rules) (search rules) (search rules) (search rules))
