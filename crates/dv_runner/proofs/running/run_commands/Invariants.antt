use Rattle.std.proofs.Common.{false}
use Rattle.dv_runner.specs.Works.{work_of}
use Rattle.dv_runner.proofs.Runs.{Goes}
use Rattle.dv_runner.proofs.running.run_commands.Given as goal

abbrev pub invariant-loop-at : goal.invariant-loop-at
invariant-loop-at g l =
    let k = g.K.Keeping in Goes k.start k.count k.honest (work_of l.fn.session l.fn.commands l.fn.replies false) l.at l.replies l.session
