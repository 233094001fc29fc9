use Rattle.std.proofs.Common.{map, take}
use Rattle.dv_memory_system.proofs.Naming.{step_name, HasNames}
use Rattle.dv_memory_system.proofs.system.MemSystem.names_with.Given as goal

-- the name and those of the calls so far
abbrev pub invariant-loop-step : goal.invariant-loop-step
invariant-loop-step l = HasNames l.fn.name (map step_name (take l.step-index l.step-items)) l.names
