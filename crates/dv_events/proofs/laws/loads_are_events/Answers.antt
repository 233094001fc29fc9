use Rattle.dv_events.proofs.Loading.{gather_loads, refresh_loads, rejoin_loads}
use Rattle.dv_events.proofs.laws.loads_are_events.Goals as goal

pub returns-clause-refresh : goal.returns-clause-refresh
returns-clause-refresh c = refresh_loads

pub returns-clause-rejoin : goal.returns-clause-rejoin
returns-clause-rejoin c = rejoin_loads

pub returns-clause-gather : goal.returns-clause-gather
returns-clause-gather c = gather_loads
