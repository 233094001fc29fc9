use Rattle.dv_disk.proofs.Runs.{quiet_on, quiet_same}
use Rattle.dv_disk.proofs.files.Files.enter.Goals as goal

pub returns-in_err-lock-clause-quiet : goal.returns-in_err-lock-clause-quiet
returns-in_err-lock-clause-quiet g c = λ tells.
    let Y = g.Y.System in
    let now = g.met.Y.System.counts_now in
    quiet_on Y.moment Y.left_since Y.disk now _ _ _ (c.reach.ensures.quiet tells) (quiet_same Y.moment Y.left_since Y.disk now c.reach.new.self.system c.lock.new.self (c.lock.ensures.disk tells) (c.lock.ensures.time tells))

pub returns-clause-quiet : goal.returns-clause-quiet
returns-clause-quiet g c = λ tells.
    let Y = g.Y.System in
    let now = g.met.Y.System.counts_now in
    quiet_on Y.moment Y.left_since Y.disk now _ _ _ (c.reach.ensures.quiet tells) (quiet_same Y.moment Y.left_since Y.disk now c.reach.new.self.system c.lock.new.self (c.lock.ensures.disk tells) (c.lock.ensures.time tells))
