use Rattle.std.proofs.Common.{◌<◌, ◌≤◌, rules}
use Rattle.dv_gen.specs.LinesToCome.{lines_to_come}
use Rattle.dv_gen.proofs.Steps.{command_left, command_more, none_lost}
use Rattle.dv_gen.proofs.generation.GeneratedLinesLines.next.Goals as goal

pub returns-in_err-line_of-2-clause-some : goal.returns-in_err-line_of-2-clause-some
returns-in_err-line_of-2-clause-some c =
    let self = c.args.self.now in
    let all : self.sessions ≤ self.selects = search rules in
    let less : self.commands < self.count = search rules in
    none_lost c.from_residual-in_err-line_of-2.result (lines_to_come self) (command_left self.sessions self.count self.selects self.commands self.state all less)

pub returns-clause-next : goal.returns-clause-next
returns-clause-next c =
    let self = c.args.self.now in
    let all : self.sessions ≤ self.selects = search rules in
    let less : self.commands < self.count = search rules in
    command_more self.sessions self.count self.selects self.commands self.state c.command_drawn.new.state c.in_ok-command.command c.in_ok-line_of-2.field-0 all less c.in_ok-command.ensures c.in_ok-line_of-2.ensures
