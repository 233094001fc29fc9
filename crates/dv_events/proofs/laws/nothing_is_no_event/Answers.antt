use Rattle.dv_events.proofs.Loading.{failed_refresh_stays, nothing_happens}
use Rattle.dv_events.proofs.laws.nothing_is_no_event.Goals as goal

pub returns-clause-stays : goal.returns-clause-stays
returns-clause-stays c = nothing_happens

pub returns-clause-refresh : goal.returns-clause-refresh
returns-clause-refresh c = failed_refresh_stays
