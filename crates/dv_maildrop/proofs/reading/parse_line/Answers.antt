use Rattle.std.proofs.Common.{◌∙◌, subst, sym}
use Rattle.dv_maildrop.specs.declared.types.PopLine.{PopLine}
use Rattle.dv_maildrop.specs.Lines.{IsPopLine}
use Rattle.dv_maildrop.proofs.Commands.{line_complete, line_sound}
use Rattle.dv_maildrop.proofs.reading.parse_line.Goals as goal

pub returns-clause-found : goal.returns-clause-found
returns-clause-found c = λ good.
    let text = c.args.b.now in
    subst (λ (l : PopLine). IsPopLine l text) (sym c.read_line.ensures) (line_sound text (λ bad. good (c.read_line.ensures ∙ bad)))

pub returns-clause-only : goal.returns-clause-only
returns-clause-only c = λ line is. c.read_line.ensures ∙ line_complete line c.args.b.now is
