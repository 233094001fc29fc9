use Rattle.std.proofs.Common.{take}
use Rattle.dv_shelf.specs.Folders.{with_file}
use Rattle.dv_shelf.proofs.SampleLemmas.{ShowsOnly}
use Rattle.dv_system.specs.Disks.{files_of}
use Rattle.dv_memory_system.specs.Systems.{disk_of}
use Rattle.dv_memory_system.proofs.system.MemSystem.image.Given as goal

-- the files of the names so far
abbrev pub invariant-loop-other : goal.invariant-loop-other
invariant-loop-other l = ShowsOnly (with_file (files_of (disk_of l.self)) l.name l.file) (take l.other-index l.other-items) l.image
