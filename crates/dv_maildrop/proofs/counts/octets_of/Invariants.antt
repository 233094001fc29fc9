use Rattle.std.proofs.Common.{◌≡◌, ◌*◌, ◌≤◌, ◌^◌, take}
use Rattle.std.specs.Prelude.{sum_by}
use Rattle.dv_maildrop.proofs.counts.octets_of.Given as goal

abbrev pub invariant-loop-row : goal.invariant-loop-row
invariant-loop-row l = record {
  sum : l.octets ≡ sum_by (λ row. row.size) (take l.row-index l.rows);
  bound : l.octets ≤ l.row-index * 2 ^ 64;
}
