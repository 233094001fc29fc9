use Rattle.std.proofs.Common.{◌≡◌, false, take}
use Rattle.std.specs.Prelude.{All}
use Rattle.dv_rows.specs.Parted.{is_missing}
use Rattle.dv_rows.proofs.parting.first_missing.Given as goal

abbrev pub invariant-loop-uid : goal.invariant-loop-uid
invariant-loop-uid l = All (λ row. is_missing (take l.uid-index l.uids) l.part.rows row.uid ≡ false) l.rows
