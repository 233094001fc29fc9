use Rattle.dv_live.proofs.Worked.{deleted_leave}
use Rattle.dv_live.proofs.examples.deleted_messages_leave.Goals as goal

pub returns : goal.returns
returns c = deleted_leave
