use Rattle.std.proofs.Common.{◌≡◌, ◌+◌, length, take}
use Rattle.std.specs.Prelude.{count_by, nat_le}
use Rattle.dv_rows.proofs.PutParts.{IsPutTo}
use Rattle.dv_rows.proofs.rows.Rows.put_part.Given as goal

abbrev pub invariant-loop-row : goal.invariant-loop-row
invariant-loop-row l = record {
  put : IsPutTo l.uids l.bound l.fn.part.rows l.fn.self.rows (length l.yielded) l.self.rows;
  room : l.fn.self.room ≡ l.self.room + count_by (λ row. nat_le l.bound row.uid) (take (length l.yielded) l.fn.part.rows);
}
