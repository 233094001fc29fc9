use Rattle.std.proofs.Common.{◌≡◌, ◌-◌, ◌^◌, min, take}
use Rattle.std.specs.Prelude.{sum_by}
use Rattle.dv_lookups.specs.Reads.{item_room}
use Rattle.dv_lookups.proofs.fetching.line_room.Given as goal

abbrev pub invariant-loop-item : goal.invariant-loop-item
invariant-loop-item l = l.room ≡ min (sum_by item_room (take l.item-index l.items)) (2 ^ 64 - 1)
