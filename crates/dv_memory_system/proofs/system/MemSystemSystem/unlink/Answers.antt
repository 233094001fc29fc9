use Rattle.std.proofs.Common.{[], true, false, inl, refl, ap, sym, ◌∙◌}
use Rattle.dv_memory_system.specs.Steps.{disk_after, unlinked_so}
use Rattle.dv_memory_system.proofs.Moments.{elapsed, failed_disk, stays_same}
use Rattle.dv_memory_system.proofs.Removing.{none_there, one_step, was_missing, was_there}
use Rattle.dv_memory_system.proofs.Standing.{on_err, stands_still, still_same, unlink_other}
use Rattle.dv_memory_system.proofs.system.MemSystemSystem.unlink.Goals as goal

pub returns-in_err-found-clause-err : goal.returns-in_err-found-clause-err
returns-in_err-found-clause-err c = λ told held. on_err c.from_residual.result (inl refl)

pub returns-in_err-found-clause-open : goal.returns-in_err-found-clause-open
returns-in_err-found-clause-open c = λ told held file e a b. still_same file e _ _ refl

pub returns-in_err-found-clause-time : goal.returns-in_err-found-clause-time
returns-in_err-found-clause-time c = λ told held. stays_same _ _ refl

pub returns-then-branch-clause-ok : goal.returns-then-branch-clause-ok
returns-then-branch-clause-ok c = λ told held. was_there c.args.entry c.args.self.now.steps c.unlink_there.new.self.steps c.unlink_there.result c.unlink_there.ensures.ok

pub returns-then-branch-clause-err : goal.returns-then-branch-clause-err
returns-then-branch-clause-err c = λ told held. failed_disk (unlinked_so c.args.entry true) (unlinked_so c.args.entry false) (unlinked_so c.args.entry true) [] c.args.self.now.steps c.unlink_there.new.self.steps c.unlink_there.result c.unlink_there.ensures.err

pub returns-then-branch-clause-open : goal.returns-then-branch-clause-open
returns-then-branch-clause-open c = λ told held file e a b.
    stands_still file e c.args.self.now.steps c.unlink_there.new.self.steps (unlinked_so c.args.entry true) (unlinked_so c.args.entry false) (unlinked_so c.args.entry true) [] (unlink_other c.args.entry e true a) (unlink_other c.args.entry e false a) (unlink_other c.args.entry e true a)
    c.unlink_there.result (one_step c.args.entry c.args.self.now.steps c.unlink_there.new.self.steps c.unlink_there.result c.unlink_there.ensures.ok) c.unlink_there.ensures.err

pub returns-then-branch-clause-time : goal.returns-then-branch-clause-time
returns-then-branch-clause-time c = λ told held. elapsed (unlinked_so c.args.entry true) (unlinked_so c.args.entry false) (unlinked_so c.args.entry true) [] c.args.self.now.steps c.unlink_there.new.self.steps c.unlink_there.result (one_step c.args.entry c.args.self.now.steps c.unlink_there.new.self.steps c.unlink_there.result c.unlink_there.ensures.ok) c.unlink_there.ensures.err

pub returns-else-branch-clause-ok : goal.returns-else-branch-clause-ok
returns-else-branch-clause-ok c = λ told held.
    was_missing c.args.entry c.args.self.now.steps c.unlink_missing.new.self.steps c.unlink_missing.result c.unlink_missing.ensures.ok (ap disk_after c.unlink_missing.ensures.steps, none_there _ (sym c.in_ok-found.ensures ∙ c.if-branch.false))

pub returns-else-branch-clause-err : goal.returns-else-branch-clause-err
returns-else-branch-clause-err c = λ told held. on_err c.unlink_missing.result (inl (ap disk_after c.unlink_missing.ensures.steps))

pub returns-else-branch-clause-open : goal.returns-else-branch-clause-open
returns-else-branch-clause-open c = λ told held file e a b. still_same file e c.args.self.now.steps c.unlink_missing.new.self.steps c.unlink_missing.ensures.steps

pub returns-else-branch-clause-time : goal.returns-else-branch-clause-time
returns-else-branch-clause-time c = λ told held. stays_same c.args.self.now.steps c.unlink_missing.new.self.steps c.unlink_missing.ensures.steps
