use Rattle.dv_script.specs.Opened.{lines_left}
use Rattle.dv_tests_keeper.proofs.Asked.{given_serves}
use Rattle.dv_tests_keeper.proofs.lines.line_of.Goals as goal

pub returns-in-Some : goal.returns-in-Some
returns-in-Some c =
    let left = lines_left c.in-Ok.script.lines in
    given_serves left _ c.in_ok-line.field-0 c.in-Some.line
    (c.commands_are_servable.ensures left c.args.text.now c.in-Ok.ensures.found)
    c.in_ok-line.ensures.next c.in-Some.is
