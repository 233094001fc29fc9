use Rattle.std.proofs.Common.{[], true, false, refl}
use Rattle.dv_memory_system.specs.declared.step.Deed.TheVariants as deed
use Rattle.dv_memory_system.specs.declared.step.Change.TheVariants.{Create}
use Rattle.dv_memory_system.proofs.Moments.{disk_more, failed_time, goes_on, tried_disk}
use Rattle.dv_memory_system.proofs.Standing.{is_there, on_err, still, tried_still}
use Rattle.dv_memory_system.proofs.system.MemSystemSystem.create.Goals as goal

pub returns-in_err-call-clause-err : goal.returns-in_err-call-clause-err
returns-in_err-call-clause-err c = λ told held.
    on_err c.from_residual.result (tried_disk (deed.File c.args.entry (Create true)) (deed.File c.args.entry (Create false)) (deed.File c.args.entry (Create true)) [] c.args.self.now.steps c.call.new.self.steps c.in_err-call.ensures.err)

pub returns-in_err-call-clause-open : goal.returns-in_err-call-clause-open
returns-in_err-call-clause-open c = λ told held file e. tried_still file e c.args.self.now.steps c.call.new.self.steps (deed.File c.args.entry (Create true)) (deed.File c.args.entry (Create false)) (deed.File c.args.entry (Create true)) [] refl refl refl c.in_err-call.ensures.err

pub returns-in_err-call-clause-time : goal.returns-in_err-call-clause-time
returns-in_err-call-clause-time c = λ told held. failed_time (deed.File c.args.entry (Create true)) (deed.File c.args.entry (Create false)) (deed.File c.args.entry (Create true)) [] c.args.self.now.steps c.call.new.self.steps c.in_err-call.ensures.err

pub returns-clause-ok : goal.returns-clause-ok
returns-clause-ok c = λ told held. disk_more c.args.self.now.steps c.call.new.self.steps (deed.File c.args.entry (Create true)) [] c.in_ok-call.ensures.ok

pub returns-clause-stands : goal.returns-clause-stands
returns-clause-stands c = λ told held. is_there _ c.args.entry c.opened.ensures

pub returns-clause-open : goal.returns-clause-open
returns-clause-open c = λ told held file e. still file e c.args.self.now.steps c.call.new.self.steps (deed.File c.args.entry (Create true)) [] refl c.in_ok-call.ensures.ok

pub returns-clause-time : goal.returns-clause-time
returns-clause-time c = λ told held. goes_on c.args.self.now.steps c.call.new.self.steps (deed.File c.args.entry (Create true)) [] c.in_ok-call.ensures.ok
