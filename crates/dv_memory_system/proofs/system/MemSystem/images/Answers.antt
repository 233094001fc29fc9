use Rattle.dv_memory_system.specs.Systems.{disk_of}
use Rattle.dv_memory_system.proofs.Naming.{no_images}
use Rattle.dv_memory_system.proofs.system.MemSystem.images.Goals as goal

pub loop-name-init : goal.loop-name-init
loop-name-init c = c.in_ok-add_missing.ensures (no_images (disk_of c.args.self.now) c.new-images.result c.new-images.ensures)

pub loop-name-preserved : goal.loop-name-preserved
loop-name-preserved c = c.in_ok-add_samples.ensures c.loop-name.invariant
