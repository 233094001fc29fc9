use Rattle.std.proofs.Common.{◌≡◌, ◌<◌, ◌++◌, take}
use Rattle.std.specs.List.{All, flat_map}
use Rattle.dv_formats.specs.Snapshots.{AreBytes, row_text}
use Rattle.dv_index.proofs.rows.write_rows.Given as goal

abbrev pub invariant-loop-row : goal.invariant-loop-row
invariant-loop-row l = record {
  text : l.out ≡ l.fn.out ++ flat_map (row_text 2 l.m) (take l.row-index l.rows);
  flags : All (λ row. row.flags < 256) (take l.row-index l.rows);
  parts : All (λ row. All AreBytes row.parts) (take l.row-index l.rows);
}
