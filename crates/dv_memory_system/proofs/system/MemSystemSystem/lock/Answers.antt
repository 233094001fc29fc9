use Rattle.std.proofs.Common.{ap}
use Rattle.dv_memory_system.specs.Steps.{disk_after}
use Rattle.dv_memory_system.proofs.Moments.{stays_same}
use Rattle.dv_memory_system.proofs.Standing.{still_same}
use Rattle.dv_memory_system.proofs.system.MemSystemSystem.lock.Goals as goal

pub returns-in_err-look-clause-disk : goal.returns-in_err-look-clause-disk
returns-in_err-look-clause-disk c = λ told. ap disk_after c.look.ensures.steps

pub returns-in_err-look-clause-open : goal.returns-in_err-look-clause-open
returns-in_err-look-clause-open c = λ told file e. still_same file e c.args.self.now.steps c.look.new.self.steps c.look.ensures.steps

pub returns-in_err-look-clause-time : goal.returns-in_err-look-clause-time
returns-in_err-look-clause-time c = λ told. stays_same c.args.self.now.steps c.look.new.self.steps c.look.ensures.steps

pub returns-clause-disk : goal.returns-clause-disk
returns-clause-disk c = λ told. ap disk_after c.look.ensures.steps

pub returns-clause-open : goal.returns-clause-open
returns-clause-open c = λ told file e. still_same file e c.args.self.now.steps c.look.new.self.steps c.look.ensures.steps

pub returns-clause-time : goal.returns-clause-time
returns-clause-time c = λ told. stays_same c.args.self.now.steps c.look.new.self.steps c.look.ensures.steps
