use Rattle.dv_tries.proofs.Keeping.{rest_gives_last}
use Rattle.dv_tries.proofs.laws.rest_gives_last.Goals as goal

pub returns : goal.returns
returns g c = rest_gives_last g.row.C.Denot g.S.Shelf.sees g.C.Clock.sees.tells
