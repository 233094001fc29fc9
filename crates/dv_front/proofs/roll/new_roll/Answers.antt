use Rattle.dv_front.proofs.RollSteps.{begins}
use Rattle.dv_front.proofs.roll.new_roll.Goals as goal

pub of_words-requires : goal.of_words-requires
of_words-requires c = begins
