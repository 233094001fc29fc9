use Rattle.std.proofs.Common.{map, take}
use Rattle.dv_memory_system.specs.Systems.{disk_of}
use Rattle.dv_memory_system.proofs.Entries.{entry_of, ListsAmong}
use Rattle.dv_memory_system.proofs.system.MemSystem.entries.Given as goal

-- the entries at which files stand, among those that the calls so far name
abbrev pub invariant-loop-step : goal.invariant-loop-step
invariant-loop-step l = ListsAmong (disk_of l.self) (map entry_of (take l.step-index l.step-items)) l.entries
