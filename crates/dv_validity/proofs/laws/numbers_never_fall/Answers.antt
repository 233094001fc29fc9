use Rattle.dv_validity.proofs.Numbers.{record_rises, records_never_fall}
use Rattle.dv_validity.proofs.laws.numbers_never_fall.Goals as goal

pub returns-clause-one : goal.returns-clause-one
returns-clause-one c = record_rises

pub returns-clause-all : goal.returns-clause-all
returns-clause-all c = records_never_fall
