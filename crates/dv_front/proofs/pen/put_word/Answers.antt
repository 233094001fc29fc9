use Rattle.std.proofs.Common.{rules}
use Rattle.dv_front.proofs.Steps.{puts}
use Rattle.dv_front.proofs.pen.put_word.Goals as goal

pub store-requires : goal.store-requires
store-requires c = (search rules, search rules, puts _ _ _ _ _ _ (search rules) (search rules) (search rules) (search rules) (search rules))
