use Rattle.std.proofs.Common.{◌≡◌, ◌+◌, take, drop, map}
use Rattle.std.specs.Prelude.{sum_by}
use Rattle.dv_shelf.specs.Disks.{put_call}
use Rattle.dv_shelf.specs.Records.{made_calls, room_left}
use Rattle.dv_shelf.specs.Rooms.{file_room}
use Rattle.dv_shelf.proofs.record.Record.of.Given as goal

abbrev pub invariant-loop-file : goal.invariant-loop-file
invariant-loop-file l = record {
  calls : made_calls l.made ≡ map put_call (take l.file-index l.files);
  room : room_left l.made ≡ l.room + sum_by file_room (drop l.file-index l.files);
}
