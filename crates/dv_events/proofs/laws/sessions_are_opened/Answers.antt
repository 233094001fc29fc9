use Rattle.dv_events.proofs.Loading.{sessions_open}
use Rattle.dv_events.proofs.laws.sessions_are_opened.Goals as goal

pub returns : goal.returns
returns c = sessions_open
