use Rattle.std.proofs.Common.{◌+◌, ◌≤◌, length}
use Rattle.dv_script.proofs.LineByLine.{IsReadTo}
use Rattle.dv_script.proofs.script.count_sessions.Given as goal

abbrev pub invariant-lines : goal.invariant-lines
invariant-lines l = record {
  short : length l.b ≤ 67108864;
  counted : l.number + length l.rest ≤ length l.b + 1;
  seats : length l.names ≤ 64;
  same : IsReadTo l.fn.first l.b l.number l.names l.rest;
}

abbrev pub decreases-lines : goal.decreases-lines
decreases-lines l = length l.rest
