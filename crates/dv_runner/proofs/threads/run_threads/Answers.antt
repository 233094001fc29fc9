use Rattle.std.proofs.Common.{arith}
use denote.Param.{param}
use denote.Param.Send.{sendable}
use Rattle.dv_runner.proofs.Runs.{have_run}
use Rattle.dv_runner.proofs.Crossing.{job_send}
use Rattle.dv_runner.proofs.threads.run_threads.Goals as goal

pub returns : goal.returns
returns g c =
    let k = g.K.Keeping in
    have_run k.start k.count k.honest c.args.jobs.now c.for_each_mut.new.s c.for_each_mut.auto.s (λ i d less. let e = (c.for_each_mut.ensures i d less).1 in grind arith)

pub for_each_mut-requires-send-T : goal.for_each_mut-requires-send-T
for_each_mut-requires-send-T g c κs within =
    let sends = job_send (param 2 g.row.K) (param 3 g.row.L) (param 4 g.row.M) g.K.Keeping g.L.Tally g.L.Ledger g.M.Tally g.M.Ledger in search sendable depth 20
