use Rattle.dv_model.proofs.Transcripts.{runs_grown, runs_on}
use Rattle.dv_model.proofs.laws.runs_go_on.Goals as goal

pub returns-clause-stay : goal.returns-clause-stay
returns-clause-stay c = runs_grown

pub returns-clause-on : goal.returns-clause-on
returns-clause-on c = runs_on
