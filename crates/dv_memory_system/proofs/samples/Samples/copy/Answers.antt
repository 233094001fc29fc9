use Rattle.dv_memory_system.proofs.Torn.{copied}
use Rattle.dv_memory_system.proofs.samples.Samples.copy.Goals as goal

pub returns : goal.returns
returns c = λ v are.
    copied v c.args.self.now c.in_ok-read.read c.in_ok-synced.synced c.in_ok-torn.torn c.in_ok-read.ensures c.in_ok-synced.ensures c.in_ok-torn.ensures are
