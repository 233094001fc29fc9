use Rattle.std.proofs.Common.{◌≡◌, ℕ, map, take}
use Rattle.dv_model.specs.declared.types.GuidRow.{GuidRow}
use Rattle.dv_groups.specs.Changes.{guid_rows}
use Rattle.dv_interleavings.specs.Worlds.{guid_of}
use Rattle.dv_world.specs.Shapes.{stored_of}
use Rattle.dv_world.proofs.writing.guid_rows.Given as goal

abbrev pub invariant-loop-uid : goal.invariant-loop-uid
invariant-loop-uid l = l.rows ≡ guid_rows (guid_of (map stored_of l.stored)) (take l.uid-index l.uid-items)
