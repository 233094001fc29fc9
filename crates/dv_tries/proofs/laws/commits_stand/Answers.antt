use Rattle.dv_tries.proofs.Standing.{commits_stand, errors_stand}
use Rattle.dv_tries.proofs.laws.commits_stand.Goals as goal

pub returns-clause-ok : goal.returns-clause-ok
returns-clause-ok g c = commits_stand g.row.S.Denot g.row.C.Denot

pub returns-clause-err : goal.returns-clause-err
returns-clause-err g c = errors_stand g.row.S.Denot g.row.C.Denot
