use Rattle.std.proofs.Common.{◌≡◌}
use Rattle.dv_notices.specs.Lines.{past_lines}
use Rattle.dv_notices.proofs.lines.line_numbered.Given as goal

abbrev pub invariant-loop : goal.invariant-loop
invariant-loop l = l.rest ≡ past_lines l.counter l.text
