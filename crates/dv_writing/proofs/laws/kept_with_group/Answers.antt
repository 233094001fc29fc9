use Rattle.dv_writing.proofs.Keeping.{check_kept, group_kept}
use Rattle.dv_writing.proofs.laws.kept_with_group.Goals as goal

pub returns-clause-group : goal.returns-clause-group
returns-clause-group c = λ log written command m after folder makes same new keeps. group_kept log written m folder same keeps command after makes new

pub returns-clause-check : goal.returns-clause-check
returns-clause-check c = λ log written m after cache folder gives same of there keeps. check_kept log written m folder same keeps after cache gives of there
