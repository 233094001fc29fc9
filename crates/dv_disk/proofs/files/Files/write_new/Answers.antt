use Rattle.dv_disk.proofs.Calls.{passed}
use Rattle.dv_disk.proofs.Writing.{make_failed, made_wrote}
use Rattle.dv_disk.proofs.files.Files.write_new.Goals as goal

pub returns-in_err-file : goal.returns-in_err-file
returns-in_err-file g c = λ tells.
    let Y = g.Y.System in
    let files = c.args.self.now in
    let held = files.held c.requires.locked in
    make_failed Y.disk Y.moment Y.left_since g.met.Y.System.counts_now c.args.name c.args.at c.args.bytes.now files.system (files.ready c.requires.ready tells) (g.met.Y.System.readable files.system tells)
    c.from_residual.result c.create.new.self (passed c.from_residual.result _ c.from_residual.ensures.1) (c.requires.missing tells) (c.in_err-file.ensures.err tells held) (c.create.ensures.time tells held)

pub returns : goal.returns
returns g c = λ tells.
    let Y = g.Y.System in
    let files = c.args.self.now in
    let held = files.held c.requires.locked in
    made_wrote Y.disk Y.moment Y.left_since g.met.Y.System.counts_now c.args.name c.args.at c.args.bytes.now files.system (files.ready c.requires.ready tells) (g.met.Y.System.readable files.system tells)
    c.create.new.self c.write_kept.new.self.system (c.requires.missing tells) (c.in_ok-file.ensures.ok tells held) c.write_kept.result (c.write_kept.ensures.written tells) (c.create.ensures.time tells held) (c.write_kept.ensures.time tells)
