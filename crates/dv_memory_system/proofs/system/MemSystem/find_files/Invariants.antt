use Rattle.std.proofs.Common.{take}
use Rattle.dv_shelf.specs.Folders.{folder_of}
use Rattle.dv_memory_system.specs.Systems.{disk_of}
use Rattle.dv_memory_system.specs.Starts.{IsFound}
use Rattle.dv_memory_system.proofs.system.MemSystem.find_files.Given as goal

-- the files so far
abbrev pub invariant-loop-file : goal.invariant-loop-file
invariant-loop-file l = IsFound (folder_of (take l.file-index l.file-items)) (disk_of l.self)
