use Rattle.dv_sets.proofs.Reading.{set_is_one}
use Rattle.dv_sets.proofs.law.one_set.Goals as goal

pub returns : goal.returns
returns c = set_is_one
