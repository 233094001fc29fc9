use Rattle.std.proofs.Common.{◌≡◌, drop}
use Rattle.dv_apply.specs.Bodies.{first_refused, next_after}
use Rattle.dv_apply.proofs.appends.test_rows.Given as goal

abbrev pub invariant-loop-row : goal.invariant-loop-row
invariant-loop-row l = record {
  refused : first_refused l.fn.next_uid l.rows ≡ first_refused l.next (drop l.row-index l.rows);
  next : next_after l.fn.next_uid l.rows ≡ next_after l.next (drop l.row-index l.rows);
}
