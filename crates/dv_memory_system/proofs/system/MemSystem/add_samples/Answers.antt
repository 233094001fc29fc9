use Rattle.std.proofs.Common.{List, subst}
use Rattle.dv_memory_system.specs.declared.step.Step.{Step}
use Rattle.dv_memory_system.specs.Steps.{disk_after}
use Rattle.dv_memory_system.specs.States.{IsShown}
use Rattle.dv_memory_system.proofs.system.MemSystem.add_samples.Goals as goal

pub add_states-requires : goal.add_states-requires
add_states-requires c = subst (λ (l : List Step). IsShown ((disk_after l).named c.args.name) c.in_ok-states.states.here) c.steps.ensures c.in_ok-states.ensures.here
