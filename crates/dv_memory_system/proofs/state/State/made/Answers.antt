use Rattle.dv_system.specs.Entries.{empty_file}
use Rattle.dv_memory_system.proofs.state.State.made.Goals as goal

pub returns : goal.returns
returns c = λ at shown. c.replaced.ensures at empty_file shown c.empty.ensures
