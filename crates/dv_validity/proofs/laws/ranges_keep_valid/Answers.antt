use Rattle.dv_validity.proofs.Ranges.{record_in_range}
use Rattle.dv_validity.proofs.Records.{all_in_range_valid, in_range_valid}
use Rattle.dv_validity.proofs.laws.ranges_keep_valid.Goals as goal

pub returns-clause-range : goal.returns-clause-range
returns-clause-range c = record_in_range

pub returns-clause-one : goal.returns-clause-one
returns-clause-one c = in_range_valid

pub returns-clause-all : goal.returns-clause-all
returns-clause-all c = all_in_range_valid
