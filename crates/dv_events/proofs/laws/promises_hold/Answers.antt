use Rattle.dv_events.proofs.Loading as loading
use Rattle.dv_events.proofs.laws.promises_hold.Goals as goal

pub returns : goal.returns
returns c = loading.promises_hold
