use Rattle.dv_shelf.specs.Disks.{Gone}
use Rattle.dv_memory_system.proofs.state.State.removed.Goals as goal

pub returns : goal.returns
returns c = λ at shown. c.replaced.ensures at Gone shown c.none.ensures
