use Rattle.dv_validity.proofs.Following.{following_stays}
use Rattle.dv_validity.proofs.Numbers.{record_keeps, records_keep}
use Rattle.dv_validity.proofs.laws.keywords_stay.Goals as goal

pub returns-clause-one : goal.returns-clause-one
returns-clause-one c = λ m n r e. (record_keeps m n r e).table

pub returns-clause-all : goal.returns-clause-all
returns-clause-all c = λ m n rs e. (records_keep m n rs e).table

pub returns-clause-following : goal.returns-clause-following
returns-clause-following c = following_stays
