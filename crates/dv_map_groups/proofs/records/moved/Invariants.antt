use Rattle.std.proofs.Common.{◌≡◌, ◌+◌, ◌++◌, drop}
use Rattle.dv_maps.specs.Purges.{moved}
use Rattle.dv_maps.specs.Purges.{size_of}
use Rattle.dv_map_groups.proofs.records.moved.Given as goal

abbrev pub invariant-loop-row : goal.invariant-loop-row
invariant-loop-row l = record {
  so : l.placed.items ++ moved l.new l.offset (drop l.row-index l.rows) ≡ moved l.new 0 l.rows;
  room : l.offset + size_of (drop l.row-index l.rows) ≡ size_of l.rows;
}
