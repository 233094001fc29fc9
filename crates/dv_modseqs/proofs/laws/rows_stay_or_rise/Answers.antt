use Rattle.dv_validity.proofs.Numbers.{none_returns_in_turn, records_never_fall}
use Rattle.dv_modseqs.proofs.Rising.{rows_stay_or_rise}
use Rattle.dv_modseqs.proofs.laws.rows_stay_or_rise.Goals as goal

pub returns-clause-rows : goal.returns-clause-rows
returns-clause-rows c = rows_stay_or_rise

pub returns-clause-numbers : goal.returns-clause-numbers
returns-clause-numbers c = records_never_fall

pub returns-clause-uids : goal.returns-clause-uids
returns-clause-uids c = none_returns_in_turn
