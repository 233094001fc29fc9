use Rattle.std.proofs.Common.{[], true, false, refl}
use Rattle.dv_memory_system.specs.declared.step.Deed.TheVariants as deed
use Rattle.dv_memory_system.proofs.Moments.{done_disk, elapsed, failed_once}
use Rattle.dv_memory_system.proofs.Standing.{stands_still}
use Rattle.dv_memory_system.proofs.system.MemSystemSystem.sync_folder.Goals as goal

pub returns-clause-ok : goal.returns-clause-ok
returns-clause-ok c = λ told held. done_disk (deed.SyncFolder true) (deed.SyncFolder false) (deed.SyncFolder false) [] c.args.self.now.steps c.call.new.self.steps c.call.result c.call.ensures.ok

pub returns-clause-err : goal.returns-clause-err
returns-clause-err c = λ told held. failed_once (deed.SyncFolder true) (deed.SyncFolder false) [] c.args.self.now.steps c.call.new.self.steps c.call.result c.call.ensures.err

pub returns-clause-open : goal.returns-clause-open
returns-clause-open c = λ told held file e. stands_still file e c.args.self.now.steps c.call.new.self.steps (deed.SyncFolder true) (deed.SyncFolder false) (deed.SyncFolder false) [] refl refl refl c.call.result c.call.ensures.ok c.call.ensures.err

pub returns-clause-time : goal.returns-clause-time
returns-clause-time c = λ told held. elapsed (deed.SyncFolder true) (deed.SyncFolder false) (deed.SyncFolder false) [] c.args.self.now.steps c.call.new.self.steps c.call.result c.call.ensures.ok c.call.ensures.err
