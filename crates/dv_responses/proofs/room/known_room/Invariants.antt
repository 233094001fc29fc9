use Rattle.std.proofs.Common.{◌≡◌, ◌+◌, ◌-◌, ◌^◌, min, take}
use Rattle.std.specs.Prelude.{sum_by}
use Rattle.dv_responses.specs.Rooms.{field_room, known_bytes}
use Rattle.dv_responses.proofs.room.known_room.Given as goal

abbrev pub invariant-loop-field : goal.invariant-loop-field
invariant-loop-field l = l.room ≡ min (known_bytes l.facts.body + sum_by field_room (take l.field-index l.facts.fields)) (2 ^ 64 - 1)
