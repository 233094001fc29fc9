use Rattle.dv_grammar.proofs.GrammarScripts.{bad_read, long_read, script_read, short_read}
use Rattle.dv_grammar.proofs.script_of_the_grammar_is_read.Goals as goal

pub returns-clause-lines : goal.returns-clause-lines
returns-clause-lines c = script_read

pub returns-clause-bad : goal.returns-clause-bad
returns-clause-bad c = bad_read

pub returns-clause-short : goal.returns-clause-short
returns-clause-short c = short_read

pub returns-clause-long : goal.returns-clause-long
returns-clause-long c = long_read
