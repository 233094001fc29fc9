use Rattle.dv_disk.proofs.Runs.{quiet_on}
use Rattle.dv_disk.proofs.Calls.{sweep_quiet}
use Rattle.dv_disk.proofs.files.Files.start.Goals as goal

pub returns-clause-quiet : goal.returns-clause-quiet
returns-clause-quiet g c = λ tells.
    let Y = g.Y.System in
    let now = g.met.Y.System.counts_now in
    quiet_on Y.moment Y.left_since Y.disk now _ _ _ (c.make_ready.ensures.quiet tells)
    (sweep_quiet Y.disk Y.moment Y.left_since now c.make_ready.new.self.system c.sweep.new.self.system (c.sweep.ensures.time tells) c.sweep.result (c.sweep.ensures.ok tells) (c.sweep.ensures.err tells))
