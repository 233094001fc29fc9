use Rattle.std.proofs.Common.{take}
use Rattle.dv_memory_system.specs.Steps.{disk_after}
use Rattle.dv_memory_system.specs.States.{AreShown}
use Rattle.dv_memory_system.proofs.state.States.after.Given as goal

-- what stands there behind the calls so far
abbrev pub invariant-loop-step : goal.invariant-loop-step
invariant-loop-step l = AreShown l.name (disk_after (take l.step-index l.steps)) l.states
