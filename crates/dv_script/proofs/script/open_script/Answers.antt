use Rattle.std.proofs.Common.{Ok, Err}
use Rattle.dv_formats.specs.Parsing.{ScriptFault}
use Rattle.dv_grammar.proofs.GrammarScripts.{bad_read, long_read, script_read, short_read}
use Rattle.dv_script.proofs.Grammar.{opens_of, opens_so}
use Rattle.dv_script.proofs.script.open_script.Goals as goal

pub returns-clause-found : goal.returns-clause-found
returns-clause-found c = opens_of c.args.b.now c.open_lines.result c.open_lines.ensures.lines

pub returns-clause-only : goal.returns-clause-only
returns-clause-only c = λ lines is. opens_so c.args.b.now c.open_lines.result (Ok lines) c.open_lines.ensures.lines (script_read c.args.b.now lines is)

pub returns-clause-bad : goal.returns-clause-bad
returns-clause-bad c = λ number is. opens_so c.args.b.now c.open_lines.result (Err (ScriptFault.BadLine number)) c.open_lines.ensures.lines (bad_read c.args.b.now number is)

pub returns-clause-short : goal.returns-clause-short
returns-clause-short c = λ number is. opens_so c.args.b.now c.open_lines.result (Err (ScriptFault.ShortLiteral number)) c.open_lines.ensures.lines (short_read c.args.b.now number is)

pub returns-clause-long : goal.returns-clause-long
returns-clause-long c = λ is. opens_so c.args.b.now c.open_lines.result (Err ScriptFault.TooLong) c.open_lines.ensures.lines (long_read c.args.b.now is)
