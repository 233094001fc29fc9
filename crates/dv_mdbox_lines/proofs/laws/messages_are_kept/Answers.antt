use Rattle.dv_mdbox_lines.proofs.Behind as behind
use Rattle.dv_mdbox_lines.proofs.laws.messages_are_kept.Goals as goal

pub returns : goal.returns
returns c = behind.messages_are_kept
