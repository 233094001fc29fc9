use Rattle.std.proofs.Common.{Ok}
use Rattle.dv_disk.proofs.Syncing.{missing}
use Rattle.dv_disk.proofs.files.Files.sync_missing.Goals as goal

pub returns-else-self : goal.returns-else-self
returns-else-self g c = λ tells.
    let Y = g.Y.System in
    let files = c.args.self.now in
    missing Y.disk Y.moment Y.left_since g.met.Y.System.counts_now c.args.name files.system (files.ready c.requires.ready tells) (g.met.Y.System.readable files.system tells) (Ok tt)
    (c.requires.missing tells) (files.swept c.requires.swept tells c.args.name) (files.trusted c.if-self.false tells c.args.name)
