use Rattle.std.proofs.Common.{subst}
use Rattle.dv_mdbox_lines.specs.Grammar.{IsOf}
use Rattle.dv_mdbox_lines.proofs.GoodScripts.{script_is}
use Rattle.dv_mdbox_lines.proofs.laws.read_lines_are_of_the_grammar.Goals as goal

pub returns-clause-calls : goal.returns-clause-calls
returns-clause-calls c = λ script calls e. subst (λ read. IsOf read script) e (script_is script)

pub returns-clause-fault : goal.returns-clause-fault
returns-clause-fault c = λ script fault e. subst (λ read. IsOf read script) e (script_is script)
