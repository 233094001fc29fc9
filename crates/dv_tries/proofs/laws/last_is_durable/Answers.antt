use Rattle.dv_tries.proofs.Durable.{last_is_durable}
use Rattle.dv_tries.proofs.laws.last_is_durable.Goals as goal

pub returns : goal.returns
returns g c = last_is_durable g.C.Clock.sees.tells
