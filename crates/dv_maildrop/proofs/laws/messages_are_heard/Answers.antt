use Rattle.dv_maildrop.proofs.Heard.{message_heard}
use Rattle.dv_maildrop.proofs.laws.messages_are_heard.Goals as goal

pub returns : goal.returns
returns c = message_heard
