use Rattle.dv_memory_system.proofs.Torn.{durable}
use Rattle.dv_memory_system.proofs.samples.Samples.durable.Goals as goal

pub returns : goal.returns
returns c =
    durable c.args.file.now c.in_ok-read.read c.in_ok-synced.synced c.in_ok-torn.torn c.in_ok-read.ensures c.in_ok-synced.ensures c.in_ok-torn.ensures
