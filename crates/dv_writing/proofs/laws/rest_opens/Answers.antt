use Rattle.dv_writing.proofs.Opened.{may_open}
use Rattle.dv_writing.proofs.laws.rest_opens.Goals as goal

pub returns : goal.returns
returns c = λ owed chain folder bounds owes rest. may_open owed chain folder owes rest
