use Rattle.std.proofs.Common.{◌≡◌, take, fold, Some}
use Rattle.dv_memory_system.specs.Places.{place_then}
use Rattle.dv_memory_system.proofs.system.MemSystem.place.Given as goal

-- where it stands behind the calls so far
abbrev pub invariant-loop-step : goal.invariant-loop-step
invariant-loop-step l = l.place ≡ fold place_then (Some l.file.entry) (take l.step-index l.later)
