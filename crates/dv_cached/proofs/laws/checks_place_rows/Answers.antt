use Rattle.dv_cached.proofs.Placing.{placed}
use Rattle.dv_cached.proofs.laws.checks_place_rows.Goals as goal

pub returns : goal.returns
returns c = λ m after i row valid room few gives there. placed m after valid room few gives i row there
