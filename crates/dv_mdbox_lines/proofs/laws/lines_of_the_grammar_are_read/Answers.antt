use Rattle.dv_mdbox_lines.proofs.GoodScripts.{fault_read, script_read}
use Rattle.dv_mdbox_lines.proofs.laws.lines_of_the_grammar_are_read.Goals as goal

pub returns-clause-calls : goal.returns-clause-calls
returns-clause-calls c = λ script calls is. script_read calls script is

pub returns-clause-fault : goal.returns-clause-fault
returns-clause-fault c = λ script fault is. fault_read fault script is
