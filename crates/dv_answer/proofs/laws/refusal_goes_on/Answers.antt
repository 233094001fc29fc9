use Rattle.dv_answer.proofs.Limits.{refusal_goes_on}
use Rattle.dv_answer.proofs.laws.refusal_goes_on.Goals as goal

pub returns : goal.returns
returns c = refusal_goes_on
