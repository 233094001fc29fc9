use Rattle.dv_mdbox_lines.proofs.Behind as behind
use Rattle.dv_mdbox_lines.proofs.laws.counts_are_true.Goals as goal

pub returns : goal.returns
returns c = behind.counts_are_true
