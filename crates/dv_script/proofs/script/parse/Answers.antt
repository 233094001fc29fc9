use Rattle.std.proofs.Common.{Ok, Err}
use Rattle.dv_formats.specs.Parsing.{ScriptFault}
use Rattle.dv_grammar.proofs.GrammarScripts.{bad_read, long_read, script_read, short_read}
use Rattle.dv_script.proofs.Grammar.{gives_so, is_of}
use Rattle.dv_script.proofs.script.parse.Goals as goal

pub returns-clause-found : goal.returns-clause-found
returns-clause-found c = is_of c.args.b.now c.read_lines.result c.read_lines.ensures.lines

pub returns-clause-only : goal.returns-clause-only
returns-clause-only c = λ lines is. gives_so c.args.b.now c.read_lines.result (Ok lines) c.read_lines.ensures.lines (script_read c.args.b.now lines is)

pub returns-clause-bad : goal.returns-clause-bad
returns-clause-bad c = λ number is. gives_so c.args.b.now c.read_lines.result (Err (ScriptFault.BadLine number)) c.read_lines.ensures.lines (bad_read c.args.b.now number is)

pub returns-clause-short : goal.returns-clause-short
returns-clause-short c = λ number is. gives_so c.args.b.now c.read_lines.result (Err (ScriptFault.ShortLiteral number)) c.read_lines.ensures.lines (short_read c.args.b.now number is)

pub returns-clause-long : goal.returns-clause-long
returns-clause-long c = λ is. gives_so c.args.b.now c.read_lines.result (Err ScriptFault.TooLong) c.read_lines.ensures.lines (long_read c.args.b.now is)
