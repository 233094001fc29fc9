use Rattle.dv_writing.proofs.Resting.{rests_give}
use Rattle.dv_writing.proofs.laws.rest_gives.Goals as goal

pub returns : goal.returns
returns g c = rests_give g.S.Shelf.sees
