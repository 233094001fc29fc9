use Rattle.dv_promises.proofs.Ending.{all_keep, begins, keeps}
use Rattle.dv_validity.proofs.Logs.{resets_at, valid_at}
use Rattle.dv_promises.proofs.laws.worlds_stand.Goals as goal

pub returns-clause-begins : goal.returns-clause-begins
returns-clause-begins c = begins

pub returns-clause-one : goal.returns-clause-one
returns-clause-one c = keeps

pub returns-clause-all : goal.returns-clause-all
returns-clause-all c = all_keep

pub returns-clause-valid : goal.returns-clause-valid
returns-clause-valid c = λ w k m stands is. (valid_at w.log stands.sound k m is, resets_at w.log stands.sound k m is)
