use Rattle.dv_pop3.proofs.Once as once
use Rattle.dv_pop3.proofs.laws.sessions_write_once.Goals as goal

pub returns : goal.returns
returns c = once.sessions_write_once
