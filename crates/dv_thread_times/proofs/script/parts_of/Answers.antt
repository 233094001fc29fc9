use Rattle.std.proofs.Common.{List, subst, sym}
use Rattle.std.specs.Prelude.{All}
use Rattle.dv_parts.specs.declared.parts.Part.{Part}
use Rattle.dv_script.specs.Opened.{lines_left}
use Rattle.dv_serving.specs.Servable.{IsServable}
use Rattle.dv_threads.proofs.Closing.{parts_servable}
use Rattle.dv_thread_times.proofs.script.parts_of.Goals as goal

pub returns-in-Ok-part_lines : goal.returns-in-Ok-part_lines
returns-in-Ok-part_lines c =
    let lines = lines_left c.in-Ok.script.lines in
    subst (λ (ps : List Part). All (λ (p : Part). All IsServable p.commands) ps) (sym c.into_vec.ensures)
    (parts_servable lines c.in-Ok-part_lines.parts c.in-Ok-part_lines.ensures (c.commands_are_servable.ensures lines c.args.text.now c.in-Ok.ensures.found))
