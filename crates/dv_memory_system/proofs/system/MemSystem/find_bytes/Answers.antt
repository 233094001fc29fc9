use Rattle.dv_memory_system.proofs.Starting.{temporary_ok}
use Rattle.dv_memory_system.proofs.system.MemSystem.find_bytes.Goals as goal

pub returns : goal.returns
returns c = λ files found. temporary_ok files c.args.bytes.now c.args.self.now.steps c.find.new.self.steps c.find.result c.find.ensures found
