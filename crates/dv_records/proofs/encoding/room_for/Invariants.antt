use Rattle.std.proofs.Common.{◌+◌, ◌*◌, ◌≤◌, length, take}
use Rattle.std.specs.Prelude.{All, flat_map}
use Rattle.dv_model.specs.Spelling.{IsRecord, written}
use Rattle.dv_records.proofs.encoding.room_for.Given as goal

abbrev pub invariant-loop-r : goal.invariant-loop-r
invariant-loop-r l = All IsRecord l.records → l.room ≤ length (flat_map written (take l.r-index l.records)) + 40 * l.r-index
