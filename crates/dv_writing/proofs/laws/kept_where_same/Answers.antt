use Rattle.dv_writing.proofs.Kept.{kept_same}
use Rattle.dv_writing.proofs.laws.kept_where_same.Goals as goal

pub returns : goal.returns
returns c = kept_same
