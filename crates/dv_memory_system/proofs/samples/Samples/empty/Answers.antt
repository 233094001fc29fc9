use Rattle.std.proofs.Common.{[], Some, ap}
use Rattle.dv_memory_system.proofs.Torn.{durable}
use Rattle.dv_memory_system.proofs.samples.Samples.empty.Goals as goal

pub returns : goal.returns
returns c =
    durable (Some []) (Some c.new-read.result) (Some c.new-synced.result) (Some c.new-torn.result) (ap Some c.new-read.ensures) (ap Some c.new-synced.ensures) (ap Some c.new-torn.ensures)
