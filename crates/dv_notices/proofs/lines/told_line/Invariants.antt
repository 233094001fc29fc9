use Rattle.std.proofs.Common.{◌≡◌, map, take}
use Rattle.dv_notices.specs.Lines.{printable}
use Rattle.dv_notices.proofs.lines.told_line.Given as goal

abbrev pub invariant-loop-byte : goal.invariant-loop-byte
invariant-loop-byte l = l.line ≡ map printable (take l.byte-index l.front)
