use Rattle.std.proofs.Common.{◌≡◌, take}
use Rattle.std.specs.Prelude.{filter}
use Rattle.dv_rows.specs.Parted.{is_among}
use Rattle.dv_rows.proofs.parting.copies.Given as goal

abbrev pub invariant-loop-uid : goal.invariant-loop-uid
invariant-loop-uid l = l.made.items ≡ filter (λ row. is_among (take l.uid-index l.uids) row.uid) l.rows
