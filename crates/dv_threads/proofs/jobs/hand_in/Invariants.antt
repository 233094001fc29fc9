use Rattle.std.proofs.Common.{◌≤◌, ◌+◌, List, length}
use Rattle.std.specs.Vec.{vec_capacity}
use Rattle.dv_parts.specs.declared.parts.Part.{Part}
use Rattle.dv_serving.specs.Outputs.{output_of}
use Rattle.dv_threads.specs.Jobs.{FailsSo, HaveServed}
use Rattle.dv_threads.proofs.Handing.{Handing}
use Rattle.dv_threads.proofs.jobs.hand_in.Given as goal

abbrev pub invariant-loop-job : goal.invariant-loop-job
invariant-loop-job g l =
    (length l.sessions.items + length l.jobs.items ≤ vec_capacity l.sessions)
    × (g.O.Sink.sees.fault_count l.initial.out ≤ g.O.Sink.sees.fault_count l.out) × FailsSo l.failed (g.O.Sink.sees.fault_count l.initial.out) (g.O.Sink.sees.fault_count l.out)
    × ((parts : List Part) → HaveServed g.K.Keeping.start g.K.Keeping.count g.K.Keeping.honest 1 parts l.fn.jobs.items
    → Handing g.K.Keeping.start g.K.Keeping.count g.K.Keeping.honest parts l.sessions.items l.jobs.items l.whole l.failed (output_of g.O.Sink.sees l.initial.out l.out))

abbrev pub decreases-loop-job : goal.decreases-loop-job
decreases-loop-job g l = length l.jobs.items
