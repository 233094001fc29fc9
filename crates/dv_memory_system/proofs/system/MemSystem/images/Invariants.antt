use Rattle.dv_memory_system.specs.Systems.{disk_of}
use Rattle.dv_memory_system.specs.Samples.{AreImages}
use Rattle.dv_memory_system.proofs.system.MemSystem.images.Given as goal

abbrev pub invariant-loop-name : goal.invariant-loop-name
invariant-loop-name l = AreImages (disk_of l.self) l.images
