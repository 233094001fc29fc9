use Rattle.dv_serving.proofs.Generated.{generated_count, generated_servable}
use Rattle.dv_serving.proofs.laws.generated_are_servable.Goals as goal

pub returns-clause-commands : goal.returns-clause-commands
returns-clause-commands c = generated_servable

pub returns-clause-count : goal.returns-clause-count
returns-clause-count c = generated_count
