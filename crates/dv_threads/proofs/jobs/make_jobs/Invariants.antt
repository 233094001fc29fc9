use Rattle.std.proofs.Common.{length}
use Rattle.std.specs.Vec.{vec_capacity}
use Rattle.dv_threads.proofs.Handing.{Making}
use Rattle.dv_threads.proofs.jobs.make_jobs.Given as goal

abbrev pub invariant-loop-part : goal.invariant-loop-part
invariant-loop-part g l = Making g.K.Keeping.start l.fn.parts.items (vec_capacity l.jobs) l.sessions.items l.parts.items l.jobs.items

abbrev pub decreases-loop-part : goal.decreases-loop-part
decreases-loop-part g l = length l.parts.items
