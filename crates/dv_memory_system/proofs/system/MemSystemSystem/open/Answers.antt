use Rattle.std.proofs.Common.{ap}
use Rattle.dv_memory_system.specs.Steps.{disk_after}
use Rattle.dv_memory_system.proofs.Moments.{stays_same}
use Rattle.dv_memory_system.proofs.Standing.{still_same, opened_there}
use Rattle.dv_memory_system.proofs.system.MemSystemSystem.open.Goals as goal

pub returns-clause-none : goal.returns-clause-none
returns-clause-none c = λ told held. opened_there c.args.entry c.args.self.now.steps c.open_there.new.self.steps c.open_there.result c.open_there.ensures.none

pub returns-clause-disk : goal.returns-clause-disk
returns-clause-disk c = λ told held. ap disk_after c.open_there.ensures.steps

pub returns-clause-open : goal.returns-clause-open
returns-clause-open c = λ told held file e. still_same file e c.args.self.now.steps c.open_there.new.self.steps c.open_there.ensures.steps

pub returns-clause-time : goal.returns-clause-time
returns-clause-time c = λ told held. stays_same c.args.self.now.steps c.open_there.new.self.steps c.open_there.ensures.steps
