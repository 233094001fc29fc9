use Rattle.std.proofs.Common.{◌≡◌, map, take}
use Rattle.dv_openings.specs.Salvages.{kept_row}
use Rattle.dv_rebuild.proofs.records.kept_rows.Given as goal

abbrev pub invariant-loop-uid : goal.invariant-loop-uid
invariant-loop-uid l = l.rows ≡ map (kept_row l.live.mailbox) (take l.uid-index l.kept)
