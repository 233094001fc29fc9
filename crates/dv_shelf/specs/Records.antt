-- What the record of a shelf in memory holds.
use Rattle.std.specs.Prelude.{ℕ, List, map, take, drop}
use Rattle.dv_shelf.specs.declared.record.Call.{Call}
use Rattle.dv_shelf.specs.declared.record.Record.{Record}
use Rattle.dv_shelf.specs.Disks.{Made}

-- a call with its bytes
abbrev pub made_call : List ℕ → Call → Made
made_call bytes call = record {
  name = call.name;
  deed = call.deed;
  outcome = call.outcome;
  bytes = take call.len (drop call.from bytes);
}

-- the calls that it holds, in turn
abbrev pub made_calls : Record → List Made
made_calls kept = map (made_call kept.bytes.items) kept.calls.items

-- the room that it has left
abbrev pub room_left : Record → ℕ
room_left kept = kept.left
