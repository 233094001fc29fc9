use Rattle.std.proofs.Common.{subst}
use Rattle.dv_grammar.proofs.ReadScripts.{HasLines, script_sound}
use Rattle.dv_grammar.proofs.read_script_is_of_the_grammar.Goals as goal

pub returns-clause-lines : goal.returns-clause-lines
returns-clause-lines c = λ script lines e. subst (HasLines script) e (script_sound script)

pub returns-clause-short : goal.returns-clause-short
returns-clause-short c = λ script number e. subst (HasLines script) e (script_sound script)

pub returns-clause-long : goal.returns-clause-long
returns-clause-long c = λ script e. subst (HasLines script) e (script_sound script)

pub returns-clause-bad : goal.returns-clause-bad
returns-clause-bad c = λ script number e. subst (HasLines script) e (script_sound script)
