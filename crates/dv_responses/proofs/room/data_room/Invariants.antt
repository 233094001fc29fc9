use Rattle.std.proofs.Common.{◌≡◌, ◌-◌, ◌^◌, min, take}
use Rattle.dv_responses.specs.Rooms.{data_room}
use Rattle.dv_responses.proofs.room.data_room.Given as goal

abbrev pub invariant-loop-uid : goal.invariant-loop-uid
invariant-loop-uid l = l.room ≡ min (data_room (take l.uid-index l.uids) l.facts) (2 ^ 64 - 1)
