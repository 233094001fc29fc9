use Rattle.std.proofs.Common.{refl}
use Rattle.dv_schedules.proofs.Calls.{make_opens, refresh_loads}
use Rattle.dv_schedules.proofs.laws.loads_are_events.Goals as goal

pub returns-clause-makes : goal.returns-clause-makes
returns-clause-makes c = make_opens

pub returns-clause-refreshes : goal.returns-clause-refreshes
returns-clause-refreshes c = refresh_loads

pub returns-clause-gathers : goal.returns-clause-gathers
returns-clause-gathers c = λ w s t. refl
