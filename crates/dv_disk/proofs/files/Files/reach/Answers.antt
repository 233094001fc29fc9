use Rattle.dv_disk.proofs.Calls.{folder_quiet}
use Rattle.dv_disk.proofs.files.Files.reach.Goals as goal

pub returns-in-Make-clause-quiet : goal.returns-in-Make-clause-quiet
returns-in-Make-clause-quiet g c = λ tells.
    let Y = g.Y.System in
    folder_quiet Y.disk Y.moment Y.left_since g.met.Y.System.counts_now c.args.self.now.system c.make_folder.new.self (c.make_folder.ensures.time tells) c.make_folder.result (c.make_folder.ensures.ok tells) (c.make_folder.ensures.err tells)
