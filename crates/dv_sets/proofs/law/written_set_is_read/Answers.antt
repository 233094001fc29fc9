use Rattle.dv_sets.proofs.Reread.{printed_set}
use Rattle.dv_sets.proofs.law.written_set_is_read.Goals as goal

pub returns : goal.returns
returns c = printed_set
