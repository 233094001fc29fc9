use Rattle.std.proofs.Common.{◌≡◌, ◌+◌, ◌≤◌}
use Rattle.dv_streams.proofs.input.ReadStreamSource.read.Given as goal

-- each call so far was interrupted
abbrev pub invariant-loop : goal.invariant-loop
invariant-loop g l =
    let C = g.C.ReadCalls in
    record {
      faults : l.self.faults ≡ l.initial.self.faults;
      left : C.tells → C.left l.self.calls ≡ C.left l.initial.self.calls;
      failures : C.tells → C.failures l.self.calls ≡ C.failures l.initial.self.calls;
      calls : C.tells → l.counter + C.interruptions l.self.calls ≤ C.interruptions l.initial.self.calls;
    }
