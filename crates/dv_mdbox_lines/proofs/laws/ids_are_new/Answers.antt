use Rattle.dv_mdbox_lines.proofs.Behind as behind
use Rattle.dv_mdbox_lines.proofs.laws.ids_are_new.Goals as goal

pub returns : goal.returns
returns c = behind.ids_are_new
