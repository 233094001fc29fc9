use Rattle.std.proofs.Common.{List, ℕ, Some, subst}
use Rattle.dv_system.specs.declared.system.Entry.TheVariants as entry
use Rattle.dv_disk.specs.Steps.{Puts}
use Rattle.dv_disk.proofs.Syncing.{written_again}
use Rattle.dv_disk.proofs.files.Files.write_again.Goals as goal

pub returns : goal.returns
returns g c = λ tells.
    let Y = g.Y.System in
    let files = c.args.self.now in
    let n = c.args.kept.name in
    let held = files.held c.requires.locked in
    let found = c.in-Ok.ensures.found tells held (entry.File n) (c.requires.stands tells) in
    written_again Y.disk Y.moment Y.left_since g.met.Y.System.counts_now n files.system c.read.new.self c.replace.new.self.system c.replace.result c.in-Ok.bytes
    (files.ready c.requires.ready tells) (g.met.Y.System.readable files.system tells) (c.read.ensures.disk tells held) (c.read.ensures.time tells held) found
    (subst (λ (b : List ℕ). Puts Y.disk Y.moment Y.left_since n (Some b) c.replace.result c.read.new.self c.replace.new.self.system) c.as_slice.ensures (c.replace.ensures tells))
