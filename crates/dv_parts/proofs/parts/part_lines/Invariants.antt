use Rattle.std.proofs.Common.{◌≡◌, ◌++◌, List, length}
use Rattle.dv_formats.specs.Scripts.{NamedLine}
use Rattle.dv_parts.specs.Parts.{AreGiven}
use Rattle.dv_parts.proofs.parts.part_lines.Given as goal

abbrev pub invariant-given : goal.invariant-given
invariant-given g l =
    (before : List NamedLine) × (before ++ g.L.Lines.left l.lines ≡ g.L.Lines.left l.initial.lines)
    × AreGiven before l.parts.items

abbrev pub decreases-given : goal.decreases-given
decreases-given g l = length (g.L.Lines.left l.lines)
