use Rattle.dv_touched.proofs.Leaving.{only_named}
use Rattle.dv_touched.proofs.law.only_named_are_touched.Goals as goal

pub returns : goal.returns
returns c = only_named
