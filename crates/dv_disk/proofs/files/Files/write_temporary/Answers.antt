use Rattle.dv_disk.proofs.Runs.{quiet_on}
use Rattle.dv_disk.proofs.Calls.{beside}
use Rattle.dv_disk.proofs.files.Files.write_temporary.Goals as goal

pub returns-then-is_err-clause-quiet : goal.returns-then-is_err-clause-quiet
returns-then-is_err-clause-quiet g c = λ tells.
    let Y = g.Y.System in
    beside Y.disk Y.moment Y.left_since g.met.Y.System.counts_now c.args.self.now.system c.clear_temporary.new.self.system (c.clear_temporary.ensures.time tells) (c.clear_temporary.ensures.names tells)

pub returns-in-Ok-clause-quiet : goal.returns-in-Ok-clause-quiet
returns-in-Ok-clause-quiet g c = λ tells.
    let Y = g.Y.System in
    let now = g.met.Y.System.counts_now in
    quiet_on Y.moment Y.left_since Y.disk now _ _ _
    (beside Y.disk Y.moment Y.left_since now c.args.self.now.system c.clear_temporary.new.self.system (c.clear_temporary.ensures.time tells) (c.clear_temporary.ensures.names tells))
    (c.fill_temporary.ensures.quiet tells)

pub returns-in-Err-clause-quiet : goal.returns-in-Err-clause-quiet
returns-in-Err-clause-quiet g c = λ tells.
    let Y = g.Y.System in
    let now = g.met.Y.System.counts_now in
    quiet_on Y.moment Y.left_since Y.disk now _ _ _
    (quiet_on Y.moment Y.left_since Y.disk now _ _ _
    (beside Y.disk Y.moment Y.left_since now c.args.self.now.system c.clear_temporary.new.self.system (c.clear_temporary.ensures.time tells) (c.clear_temporary.ensures.names tells))
    (c.fill_temporary.ensures.quiet tells))
    (beside Y.disk Y.moment Y.left_since now c.fill_temporary.new.self.system c.clear_behind.new.self.system (c.clear_behind.ensures.time tells) (c.clear_behind.ensures.names tells))
