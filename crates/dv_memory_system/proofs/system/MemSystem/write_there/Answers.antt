use Rattle.std.proofs.Common.{length, refl}
use Rattle.dv_memory_system.proofs.Writing.{all_written, part_written, written_still, written_time}
use Rattle.dv_memory_system.proofs.system.MemSystem.write_there.Goals as goal

pub returns-clause-ok : goal.returns-clause-ok
returns-clause-ok c = all_written c.args.entry c.args.at c.args.bytes.now (length c.args.bytes.now) refl c.args.self.now.steps c.call.new.self.steps c.call.result c.call.ensures.ok

pub returns-clause-err : goal.returns-clause-err
returns-clause-err c = part_written c.args.entry c.args.at c.args.bytes.now (length c.args.bytes.now) refl c.args.self.now.steps c.call.new.self.steps c.call.result c.call.ensures.err

pub returns-clause-still : goal.returns-clause-still
returns-clause-still c = λ f e. written_still c.args.entry c.args.at c.args.bytes.now (length c.args.bytes.now) refl c.args.self.now.steps c.call.new.self.steps c.call.result f e c.call.ensures.ok c.call.ensures.err

pub returns-clause-time : goal.returns-clause-time
returns-clause-time c = written_time c.args.entry c.args.at c.args.bytes.now (length c.args.bytes.now) refl c.args.self.now.steps c.call.new.self.steps c.call.result c.call.ensures.ok c.call.ensures.err
