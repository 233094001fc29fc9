use Rattle.dv_schedules.proofs.Calls.{commit_empties, commit_fails, commit_unwritten, commit_writes}
use Rattle.dv_schedules.proofs.laws.commits_are_events.Goals as goal

pub returns-clause-writes : goal.returns-clause-writes
returns-clause-writes c = λ w s session command m received healed may some. commit_writes w s session command m received healed may some

pub returns-clause-empty : goal.returns-clause-empty
returns-clause-empty c = λ w s session command m received healed may none. commit_empties w s session command m received healed may none

pub returns-clause-fails : goal.returns-clause-fails
returns-clause-fails c = λ w s session command m received healed may some. commit_fails w s session command m received healed may some

pub returns-clause-unwritten : goal.returns-clause-unwritten
returns-clause-unwritten c = commit_unwritten
