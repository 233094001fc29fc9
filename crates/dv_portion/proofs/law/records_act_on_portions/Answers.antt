use Rattle.dv_portion.proofs.Portioned.{records_portion, portion_valid}
use Rattle.dv_portion.proofs.Staying.{rest_stays}
use Rattle.dv_portion.proofs.law.records_act_on_portions.Goals as goal

pub returns-clause-portion : goal.returns-clause-portion
returns-clause-portion c = records_portion

pub returns-clause-rest : goal.returns-clause-rest
returns-clause-rest c = rest_stays

pub returns-clause-valid : goal.returns-clause-valid
returns-clause-valid c = portion_valid
