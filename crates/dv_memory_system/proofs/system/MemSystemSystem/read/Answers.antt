use Rattle.std.proofs.Common.{ap}
use Rattle.dv_memory_system.specs.Steps.{disk_after}
use Rattle.dv_memory_system.proofs.Moments.{stays_same}
use Rattle.dv_memory_system.proofs.Standing.{still_same, place_is}
use Rattle.dv_memory_system.proofs.system.MemSystemSystem.read.Goals as goal

pub returns-clause-found : goal.returns-clause-found
returns-clause-found c = λ told held e stood. c.read_open.ensures.found e (place_is _ e stood)

pub returns-clause-disk : goal.returns-clause-disk
returns-clause-disk c = λ told held. ap disk_after c.read_open.ensures.steps

pub returns-clause-open : goal.returns-clause-open
returns-clause-open c = λ told held file e. still_same file e c.args.self.now.steps c.read_open.new.self.steps c.read_open.ensures.steps

pub returns-clause-time : goal.returns-clause-time
returns-clause-time c = λ told held. stays_same c.args.self.now.steps c.read_open.new.self.steps c.read_open.ensures.steps
