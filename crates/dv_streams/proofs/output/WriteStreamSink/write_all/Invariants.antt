use Rattle.std.proofs.Common.{◌≡◌, ◌+◌, ◌≤◌, ◌++◌, length, take}
use Rattle.dv_streams.proofs.output.WriteStreamSink.write_all.Given as goal

-- each call so far took some bytes or was interrupted
abbrev pub invariant-loop : goal.invariant-loop
invariant-loop g l =
    let C = g.C.WriteCalls in
    record {
      within : l.done ≤ length l.bytes;
      faults : l.self.faults ≡ l.initial.self.faults;
      taken : C.tells → C.taken l.self.calls ≡ C.taken l.initial.self.calls ++ take l.done l.bytes;
      failures : C.tells → C.failures l.self.calls ≡ C.failures l.initial.self.calls;
      calls : C.tells → l.counter + C.interruptions l.self.calls ≤ C.interruptions l.initial.self.calls + l.done;
    }
