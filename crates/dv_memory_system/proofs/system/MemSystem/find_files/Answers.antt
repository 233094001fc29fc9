use Rattle.dv_memory_system.proofs.Starting.{all_found, files_more, folder_found}
use Rattle.dv_memory_system.proofs.system.MemSystem.find_files.Goals as goal

pub loop-file-init : goal.loop-file-init
loop-file-init c = folder_found c.args.self.now.steps c.find.new.self.steps c.requires c.in_ok-find.ensures

pub loop-file-preserved : goal.loop-file-preserved
loop-file-preserved c = files_more c.as_slice-file-items.result.now c.loop-file.file-index c.file-item.result c.as_slice.result.now c.loop-file.self.steps c.find-in-loop-file.new.self.steps c.loop-file-test.true c.file-item.is c.as_slice.ensures c.in_ok-find-2.ensures c.loop-file.invariant

pub returns : goal.returns
returns c = all_found c.args.folder.now c.as_slice-file-items.result.now c.loop-file.file-index _ c.as_slice-file-items.ensures c.loop-file-test.false c.loop-file.invariant
