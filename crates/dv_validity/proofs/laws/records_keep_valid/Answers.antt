use Rattle.dv_validity.proofs.Records.{record_valid, records_valid}
use Rattle.dv_validity.proofs.laws.records_keep_valid.Goals as goal

pub returns-clause-one : goal.returns-clause-one
returns-clause-one c = record_valid

pub returns-clause-all : goal.returns-clause-all
returns-clause-all c = records_valid
