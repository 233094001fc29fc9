use Rattle.std.proofs.Common.{◌≡◌, ◌+◌, ◌≤◌, ◌++◌, vec_capacity, vec_len}
use Rattle.std.specs.Prelude.{replicate}
use Rattle.dv_view.specs.Clients.{bare_row}
use Rattle.dv_view.proofs.client.add_unknown.Given as goal

abbrev pub invariant-loop-more : goal.invariant-loop-more
invariant-loop-more l = record {
  room : vec_len l.rows + l.more ≤ vec_capacity l.rows;
  rows : l.rows.items ++ replicate l.more (bare_row 0 0) ≡ l.initial.rows.items ++ replicate l.count (bare_row 0 0);
}

abbrev pub decreases-loop-more : goal.decreases-loop-more
decreases-loop-more l = l.more
