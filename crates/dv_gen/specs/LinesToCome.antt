-- What a generator of lines is still to give.
use Rattle.std.specs.Prelude.{List}
use Rattle.dv_formats.specs.Scripts.{NamedLine}
use Rattle.dv_gen.specs.declared.generation.GeneratedLines.{GeneratedLines}
use Rattle.dv_gen.specs.Lines.{generated_from}

abbrev pub lines_to_come : GeneratedLines → List NamedLine
lines_to_come g = generated_from g.sessions g.count g.selects g.commands g.state
