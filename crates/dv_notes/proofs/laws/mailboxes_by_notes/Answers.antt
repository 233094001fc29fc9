use Rattle.dv_notes.proofs.Logs.{mailboxes_by_notes}
use Rattle.dv_notes.proofs.laws.mailboxes_by_notes.Goals as goal

pub returns : goal.returns
returns c = mailboxes_by_notes
