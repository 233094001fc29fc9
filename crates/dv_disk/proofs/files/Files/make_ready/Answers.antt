use Rattle.dv_disk.proofs.Runs.{quiet_on}
use Rattle.dv_disk.proofs.files.Files.make_ready.Goals as goal

pub returns-clause-quiet : goal.returns-clause-quiet
returns-clause-quiet g c = λ tells.
    let Y = g.Y.System in
    quiet_on Y.moment Y.left_since Y.disk g.met.Y.System.counts_now _ _ _ (c.enter.ensures.quiet tells) (c.sync_parent.ensures.quiet tells)
