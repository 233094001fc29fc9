use Rattle.dv_shelf.specs.Folders.{folder_of}
use Rattle.dv_memory_system.specs.Laws.{files_readable}
use Rattle.dv_memory_system.specs.Systems.{disk_of}
use Rattle.dv_memory_system.proofs.Naming.{image_more, one_left}
use Rattle.dv_memory_system.proofs.system.MemSystem.add_image.Goals as goal

pub returns : goal.returns
returns c = λ are.
    image_more (disk_of c.args.self.now) _ _ c.in_ok-image.image c.in_ok-push.ensures.ok (one_left (disk_of c.args.self.now) c.args.name c.args.file.now (folder_of c.in_ok-image.image) (files_readable c.args.self.now) c.requires c.in_ok-image.ensures) are
