use Rattle.dv_playing.proofs.Failures as failures
use Rattle.dv_playing.proofs.laws.failures_rise.Goals as goal

pub returns : goal.returns
returns c = failures.failures_rise
