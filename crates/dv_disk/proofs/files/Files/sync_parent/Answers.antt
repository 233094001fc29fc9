use Rattle.dv_system.specs.Disks.{firm_place}
use Rattle.dv_disk.proofs.Readying.{place_quiet, firm_vanishes}
use Rattle.dv_disk.proofs.Calls.{parent_failed}
use Rattle.dv_disk.proofs.files.Files.sync_parent.Goals as goal

pub returns-in-Ok-clause-quiet : goal.returns-in-Ok-clause-quiet
returns-in-Ok-clause-quiet g c = λ tells.
    let Y = g.Y.System in
    place_quiet Y.disk Y.moment Y.left_since g.met.Y.System.counts_now c.args.self.now.system c.sync_parent.new.self firm_place firm_vanishes (c.in-Ok.ensures.ok tells) (c.sync_parent.ensures.time tells)

pub returns-in-Err-clause-quiet : goal.returns-in-Err-clause-quiet
returns-in-Err-clause-quiet g c = λ tells.
    let Y = g.Y.System in
    parent_failed Y.disk Y.moment Y.left_since g.met.Y.System.counts_now c.args.self.now.system c.sync_parent.new.self (c.sync_parent.ensures.time tells) (c.in-Err.ensures.err tells)
