use Rattle.dv_live.proofs.Worked.{seen_is_found}
use Rattle.dv_live.proofs.examples.seen_message_is_found.Goals as goal

pub returns : goal.returns
returns c = seen_is_found
