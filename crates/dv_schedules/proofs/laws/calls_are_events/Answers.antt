use Rattle.dv_schedules.proofs.Calls as calls
use Rattle.dv_schedules.proofs.laws.calls_are_events.Goals as goal

pub returns : goal.returns
returns c = calls.calls_are_events
