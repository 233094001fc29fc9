use Rattle.dv_memory_system.specs.Systems.{disk_of}
use Rattle.dv_memory_system.specs.Samples.{AddsImages}
use Rattle.dv_memory_system.proofs.system.MemSystem.add_states.Given as goal

abbrev pub invariant-loop-file : goal.invariant-loop-file
invariant-loop-file l = AddsImages (disk_of l.self) l.fn.images l.images
