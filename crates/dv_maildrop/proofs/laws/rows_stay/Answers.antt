use Rattle.dv_maildrop.proofs.Heard.{rows_stay}
use Rattle.dv_maildrop.proofs.laws.rows_stay.Goals as goal

pub returns : goal.returns
returns c = rows_stay
