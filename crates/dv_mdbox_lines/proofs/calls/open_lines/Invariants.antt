use Rattle.std.proofs.Common.{◌≤◌, length}
use Rattle.dv_mdbox_lines.proofs.Says.{IsReadTo}
use Rattle.dv_mdbox_lines.proofs.calls.open_lines.Given as goal

abbrev pub invariant-lines : goal.invariant-lines
invariant-lines l = record {
  short : length l.b ≤ 67108864;
  to : IsReadTo l.b l.rest;
}

abbrev pub decreases-lines : goal.decreases-lines
decreases-lines l = length l.rest
