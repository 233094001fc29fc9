use Rattle.dv_memory_system.proofs.Shown.{took_another}
use Rattle.dv_memory_system.proofs.state.States.without_temporary.Goals as goal

pub returns : goal.returns
returns c = λ disk name other differs are. took_another disk name other c.args.self c.absent.result differs are c.absent.ensures
