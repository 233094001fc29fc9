use Rattle.dv_model.proofs.Speaking.{spoken_grown, spoken_on, spoken_on_writing, spoken_left}
use Rattle.dv_model.proofs.laws.transcripts_go_on.Goals as goal

pub returns-clause-stay : goal.returns-clause-stay
returns-clause-stay c = λ log more base author commands replies others sound s. spoken_grown log more author others base commands replies sound s

pub returns-clause-on : goal.returns-clause-on
returns-clause-on c = spoken_on

pub returns-clause-writing : goal.returns-clause-writing
returns-clause-writing c = spoken_on_writing

pub returns-clause-waits : goal.returns-clause-waits
returns-clause-waits c = spoken_left
