use Rattle.dv_shelf.specs.declared.record.Deed.TheVariants.{Replace}
use Rattle.dv_shelf.specs.MemShelves.{calls_of}
use Rattle.dv_shelf.proofs.ShelfLemmas.{grew, replace_ok, replace_err, elapsed}
use Rattle.dv_shelf.proofs.ImageLemmas.{replace_crash, replace_durable}
use Rattle.dv_shelf.proofs.mem_shelf.MemShelfShelf.replace.Goals as goal

pub returns-clause-ok : goal.returns-clause-ok
returns-clause-ok c = let a = c.args in
    replace_ok c.write.result (calls_of a.self.now) _ a.name a.bytes.now (grew c.write.result a.self.now _ a.name Replace a.bytes.now c.write.ensures.made.calls c.write.ensures.made.answer)

pub returns-clause-err : goal.returns-clause-err
returns-clause-err c = let a = c.args in
    replace_err c.write.result (calls_of a.self.now) _ a.name a.bytes.now (grew c.write.result a.self.now _ a.name Replace a.bytes.now c.write.ensures.made.calls c.write.ensures.made.answer)

pub returns-clause-crash : goal.returns-clause-crash
returns-clause-crash c = let a = c.args in
    replace_crash c.write.result (calls_of a.self.now) _ a.name a.bytes.now (grew c.write.result a.self.now _ a.name Replace a.bytes.now c.write.ensures.made.calls c.write.ensures.made.answer)

pub returns-clause-durable : goal.returns-clause-durable
returns-clause-durable c = let a = c.args in
    replace_durable c.write.result (calls_of a.self.now) _ a.name a.bytes.now (grew c.write.result a.self.now _ a.name Replace a.bytes.now c.write.ensures.made.calls c.write.ensures.made.answer)

pub returns-clause-time : goal.returns-clause-time
returns-clause-time c = let a = c.args in
    elapsed c.write.result (calls_of a.self.now) _ a.name Replace a.bytes.now (grew c.write.result a.self.now _ a.name Replace a.bytes.now c.write.ensures.made.calls c.write.ensures.made.answer)
