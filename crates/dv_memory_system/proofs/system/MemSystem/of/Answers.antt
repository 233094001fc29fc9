use Rattle.dv_shelf.specs.Folders.{folder_of}
use Rattle.dv_memory_system.proofs.Starting.{found_place_trusted, found_trusted}
use Rattle.dv_memory_system.proofs.system.MemSystem.of.Goals as goal

pub returns-clause-files : goal.returns-clause-files
returns-clause-files c = (c.in_ok-find_temporary.ensures (folder_of c.args.folder.now) c.in_ok-find_files.ensures).reads

pub returns-clause-trusted : goal.returns-clause-trusted
returns-clause-trusted c = found_trusted _ _ (c.in_ok-find_temporary.ensures (folder_of c.args.folder.now) c.in_ok-find_files.ensures)

pub returns-clause-place : goal.returns-clause-place
returns-clause-place c = found_place_trusted _ _ (c.in_ok-find_temporary.ensures (folder_of c.args.folder.now) c.in_ok-find_files.ensures)
