use Rattle.dv_system.specs.declared.system.Entry.TheVariants as entry
use Rattle.dv_disk.proofs.Syncing.{synced}
use Rattle.dv_disk.proofs.files.Files.sync_kept.Goals as goal

pub returns : goal.returns
returns g c = λ tells.
    let Y = g.Y.System in
    let files = c.args.self.now in
    let n = c.args.kept.name in
    let stands = c.requires.stands tells in
    let held = files.held c.requires.locked in
    synced Y.disk Y.moment Y.left_since g.met.Y.System.counts_now n files.system (files.ready c.requires.ready tells) (g.met.Y.System.readable files.system tells) c.sync_data-done.result c.sync_data-done.new.self
    (files.swept c.requires.swept tells n) (files.trusted c.requires.trusted tells n) (c.sync_data-done.ensures.ok tells held (entry.File n) stands) (c.sync_data-done.ensures.err tells held (entry.File n) stands) (c.sync_data-done.ensures.time tells held)
