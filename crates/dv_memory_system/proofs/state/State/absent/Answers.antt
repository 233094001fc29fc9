use Rattle.dv_memory_system.proofs.Shown.{absent_shown}
use Rattle.dv_memory_system.proofs.state.State.absent.Goals as goal

pub returns : goal.returns
returns c = absent_shown c.none.result c.new-others.result c.none.ensures c.new-others.ensures
