use Rattle.std.proofs.Common.{rules}
use Rattle.dv_front.proofs.Steps.{loads_front}
use Rattle.dv_front.proofs.pass.load_front.Goals as goal

pub load-word-requires : goal.load-word-requires
load-word-requires c = (search rules, search rules, loads_front _ _ _ _ (search rules) (search rules))
