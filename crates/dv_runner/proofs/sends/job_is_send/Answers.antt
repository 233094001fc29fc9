use denote.Param.{param}
use denote.Param.Send.{sendable}
use Rattle.dv_runner.proofs.Crossing.{job_send}
use Rattle.dv_runner.proofs.sends.job_is_send.Goals as goal

pub is_send-requires-send-T : goal.is_send-requires-send-T
is_send-requires-send-T g c κs within =
    let sends = job_send (param 0 g.row.K) (param 1 g.row.L) (param 2 g.row.M) g.K.Keeping g.L.Tally g.L.Ledger g.M.Tally g.M.Ledger in search sendable depth 20
