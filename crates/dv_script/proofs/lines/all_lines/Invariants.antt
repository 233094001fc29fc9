use Rattle.std.proofs.Common.{◌≡◌, ◌++◌, length}
use Rattle.dv_script.specs.Sources.{all_named}
use Rattle.dv_script.proofs.lines.all_lines.Given as goal

abbrev pub invariant-given : goal.invariant-given
invariant-given g l = all_named l.all ++ g.L.Lines.left l.lines ≡ g.L.Lines.left l.initial.lines

abbrev pub decreases-given : goal.decreases-given
decreases-given g l = length (g.L.Lines.left l.lines)
