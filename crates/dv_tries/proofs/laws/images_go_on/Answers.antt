use Rattle.dv_tries.proofs.Growing.{images_go_on}
use Rattle.dv_tries.proofs.laws.images_go_on.Goals as goal

pub returns : goal.returns
returns g c = images_go_on g.S.Shelf.sees g.C.Clock.sees.tells g.K.Keeping.past
