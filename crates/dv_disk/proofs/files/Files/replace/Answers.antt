use Rattle.std.proofs.Common.{Some, refl}
use Rattle.dv_disk.proofs.Runs.{puts_behind, puts_nothing, quiet_on}
use Rattle.dv_disk.proofs.Calls.{passed}
use Rattle.dv_disk.proofs.files.Files.replace.Goals as goal

pub returns-in_err-start : goal.returns-in_err-start
returns-in_err-start g c = λ tells.
    let Y = g.Y.System in
    puts_nothing Y.moment Y.left_since Y.disk g.met.Y.System.counts_now c.args.self.now.system c.start.new.self.system c.args.name (Some c.args.bytes.now) c.from_residual.result
    (passed c.from_residual.result _ c.from_residual.ensures.1) (c.start.ensures.quiet tells)

pub returns-in-Err : goal.returns-in-Err
returns-in-Err g c = λ tells.
    let Y = g.Y.System in
    let now = g.met.Y.System.counts_now in
    puts_nothing Y.moment Y.left_since Y.disk now c.args.self.now.system c.write_temporary.new.self.system c.args.name (Some c.args.bytes.now) _ refl
    (quiet_on Y.moment Y.left_since Y.disk now _ _ _ (c.start.ensures.quiet tells) (c.write_temporary.ensures.quiet tells))

pub returns-in-Ok : goal.returns-in-Ok
returns-in-Ok g c = λ tells.
    let Y = g.Y.System in
    let now = g.met.Y.System.counts_now in
    puts_behind Y.moment Y.left_since Y.disk now c.args.self.now.system c.write_temporary.new.self.system c.put.new.self.system c.args.name (Some c.args.bytes.now) c.put.result
    (quiet_on Y.moment Y.left_since Y.disk now _ _ _ (c.start.ensures.quiet tells) (c.write_temporary.ensures.quiet tells))
    (c.put.ensures.puts tells (Some c.args.bytes.now) (c.in-Ok.ensures.bytes tells))
