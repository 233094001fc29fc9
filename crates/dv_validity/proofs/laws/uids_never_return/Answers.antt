use Rattle.dv_validity.proofs.Numbers.{none_returns, none_returns_in_turn}
use Rattle.dv_validity.proofs.laws.uids_never_return.Goals as goal

pub returns-clause-one : goal.returns-clause-one
returns-clause-one c = none_returns

pub returns-clause-all : goal.returns-clause-all
returns-clause-all c = none_returns_in_turn
