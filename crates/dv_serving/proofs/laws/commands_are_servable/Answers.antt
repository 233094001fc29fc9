use Rattle.dv_serving.proofs.Servable.{script_servable}
use Rattle.dv_serving.proofs.laws.commands_are_servable.Goals as goal

pub returns : goal.returns
returns c = script_servable
