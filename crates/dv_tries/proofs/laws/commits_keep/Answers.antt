use Rattle.dv_tries.proofs.Keeping.{commits_keep}
use Rattle.dv_tries.proofs.laws.commits_keep.Goals as goal

pub returns : goal.returns
returns g c = commits_keep g.row.C.Denot g.S.Shelf.sees g.C.Clock.sees.tells
