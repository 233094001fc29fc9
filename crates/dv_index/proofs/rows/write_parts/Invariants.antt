use Rattle.std.proofs.Common.{◌≡◌, ◌++◌, take}
use Rattle.std.specs.List.{All, flat_map}
use Rattle.dv_formats.specs.Snapshots.{AreBytes, filled}
use Rattle.dv_index.proofs.rows.write_parts.Given as goal

abbrev pub invariant-loop-part : goal.invariant-loop-part
invariant-loop-part l = record {
  text : l.out ≡ l.fn.out ++ flat_map filled (take l.part-index l.parts);
  fits : All AreBytes (take l.part-index l.parts);
}
