use Rattle.std.proofs.Common.{◌≡◌, take}
use Rattle.std.specs.Prelude.{flat_map}
use Rattle.dv_maps.specs.Groups.{place_row}
use Rattle.dv_map_groups.proofs.records.place_rows.Given as goal

abbrev pub invariant-loop-row : goal.invariant-loop-row
invariant-loop-row l = l.bytes ≡ flat_map place_row (take l.row-index l.rows)
