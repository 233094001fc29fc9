use Rattle.std.proofs.Common.{◌≡◌, [], true, false, inl, refl, ap}
use Rattle.dv_system.specs.Disks.{renamed}
use Rattle.dv_memory_system.specs.Steps.{disk_after}
use Rattle.dv_memory_system.specs.declared.step.Deed.TheVariants as deed
use Rattle.dv_memory_system.proofs.Moments.{done_disk, elapsed, failed_disk, stays_same}
use Rattle.dv_memory_system.proofs.Standing.{not_ok, on_err, rename_other, stands_still, still_same}
use Rattle.dv_memory_system.proofs.system.MemSystemSystem.rename.Goals as goal

pub returns-in_err-found-clause-err : goal.returns-in_err-found-clause-err
returns-in_err-found-clause-err c = λ told held. on_err c.from_residual.result (inl refl)

pub returns-in_err-found-clause-open : goal.returns-in_err-found-clause-open
returns-in_err-found-clause-open c = λ told held file e a b. still_same file e _ _ refl

pub returns-in_err-found-clause-time : goal.returns-in_err-found-clause-time
returns-in_err-found-clause-time c = λ told held. stays_same _ _ refl

pub returns-then-branch-clause-ok : goal.returns-then-branch-clause-ok
returns-then-branch-clause-ok c = λ told held. done_disk (deed.Rename c.args.name true) (deed.Rename c.args.name false) (deed.Rename c.args.name true) [] c.args.self.now.steps c.rename_there.new.self.steps c.rename_there.result c.rename_there.ensures.ok

pub returns-then-branch-clause-err : goal.returns-then-branch-clause-err
returns-then-branch-clause-err c = λ told held. failed_disk (deed.Rename c.args.name true) (deed.Rename c.args.name false) (deed.Rename c.args.name true) [] c.args.self.now.steps c.rename_there.new.self.steps c.rename_there.result c.rename_there.ensures.err

pub returns-then-branch-clause-open : goal.returns-then-branch-clause-open
returns-then-branch-clause-open c = λ told held file e a b. stands_still file e c.args.self.now.steps c.rename_there.new.self.steps (deed.Rename c.args.name true) (deed.Rename c.args.name false) (deed.Rename c.args.name true) [] (rename_other _ e true a b) (rename_other _ e false a b) (rename_other _ e true a b) c.rename_there.result c.rename_there.ensures.ok c.rename_there.ensures.err

pub returns-then-branch-clause-time : goal.returns-then-branch-clause-time
returns-then-branch-clause-time c = λ told held. elapsed (deed.Rename c.args.name true) (deed.Rename c.args.name false) (deed.Rename c.args.name true) [] c.args.self.now.steps c.rename_there.new.self.steps c.rename_there.result c.rename_there.ensures.ok c.rename_there.ensures.err

pub returns-else-branch-clause-err : goal.returns-else-branch-clause-err
returns-else-branch-clause-err c = λ told held. on_err c.refuse.result (inl (ap disk_after c.refuse.ensures.steps))

pub returns-else-branch-clause-ok : goal.returns-else-branch-clause-ok
returns-else-branch-clause-ok c = λ told held. not_ok c.refuse.result (disk_after c.refuse.new.self.steps ≡ renamed (disk_after c.args.self.now.steps) c.args.name) c.refuse.ensures.err

pub returns-else-branch-clause-open : goal.returns-else-branch-clause-open
returns-else-branch-clause-open c = λ told held file e a b. still_same file e c.args.self.now.steps c.refuse.new.self.steps c.refuse.ensures.steps

pub returns-else-branch-clause-time : goal.returns-else-branch-clause-time
returns-else-branch-clause-time c = λ told held. stays_same c.args.self.now.steps c.refuse.new.self.steps c.refuse.ensures.steps
