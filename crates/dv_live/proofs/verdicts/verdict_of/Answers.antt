use Rattle.dv_live.specs.Turning.{is_met_now}
use Rattle.dv_live.proofs.Turning.{same_verdict}
use Rattle.dv_live.proofs.verdicts.verdict_of.Goals as goal

pub returns-clause-verdict : goal.returns-clause-verdict
returns-clause-verdict c = λ key ready steady_key.
    same_verdict c.args.f.now.uid c.in_ok-met.met (is_met_now key c.args.names.now c.args.f.now.row) (c.in_ok-met.ensures key ready steady_key)
