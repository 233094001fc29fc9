use Rattle.dv_mdbox_serving.proofs.Lasting.{counts_go_on, messages_go_on}
use Rattle.dv_mdbox_serving.proofs.laws.counts_go_on.Goals as goal

pub returns-clause-counts : goal.returns-clause-counts
returns-clause-counts c = counts_go_on

pub returns-clause-messages : goal.returns-clause-messages
returns-clause-messages c = messages_go_on
