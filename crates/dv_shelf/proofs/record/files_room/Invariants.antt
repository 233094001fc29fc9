use Rattle.std.proofs.Common.{◌≡◌, ◌-◌, ◌^◌, min, take}
use Rattle.std.specs.Prelude.{sum_by}
use Rattle.dv_shelf.specs.Rooms.{file_room}
use Rattle.dv_shelf.proofs.record.files_room.Given as goal

abbrev pub invariant-loop-file : goal.invariant-loop-file
invariant-loop-file l = l.room ≡ min (sum_by file_room (take l.file-index l.files)) (2 ^ 64 - 1)
