use Rattle.dv_keeper.proofs.Fresh.{new_are_fresh}
use Rattle.dv_thread_times.proofs.sessions.run_named.Goals as goal

pub run_sessions-ran-requires-clause-fresh : goal.run_sessions-ran-requires-clause-fresh
run_sessions-ran-requires-clause-fresh g c κs within = new_are_fresh g.K.Keeping.start 1 c.in-Ok.sessions.items c.in-Ok.ensures.new
