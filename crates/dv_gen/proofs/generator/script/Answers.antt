use Rattle.dv_formats.specs.Generators.{generated}
use Rattle.dv_gen.specs.LinesToCome.{lines_to_come}
use Rattle.dv_gen.proofs.Steps.{all_given}
use Rattle.dv_gen.proofs.generator.script.Goals as goal

pub returns : goal.returns
returns c = all_given c.all_lines.result (lines_to_come c.generated_lines-lines.result) (generated c.args.seed c.args.count c.args.sessions) c.generated_lines-lines.ensures.lines c.all_lines.ensures
