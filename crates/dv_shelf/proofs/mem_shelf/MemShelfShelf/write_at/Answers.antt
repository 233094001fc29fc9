use Rattle.dv_shelf.specs.declared.record.Deed.TheVariants.{Write}
use Rattle.dv_shelf.specs.MemShelves.{calls_of}
use Rattle.dv_shelf.proofs.ShelfLemmas.{grew, write_ok, write_err, elapsed}
use Rattle.dv_shelf.proofs.ImageLemmas.{write_crash}
use Rattle.dv_shelf.proofs.mem_shelf.MemShelfShelf.write_at.Goals as goal

pub returns-clause-ok : goal.returns-clause-ok
returns-clause-ok c = let a = c.args in
    write_ok c.write.result (calls_of a.self.now) _ a.name a.at a.bytes.now (grew c.write.result a.self.now _ a.name (Write a.at) a.bytes.now c.write.ensures.made.calls c.write.ensures.made.answer)

pub returns-clause-err : goal.returns-clause-err
returns-clause-err c = let a = c.args in
    write_err c.write.result (calls_of a.self.now) _ a.name a.at a.bytes.now (grew c.write.result a.self.now _ a.name (Write a.at) a.bytes.now c.write.ensures.made.calls c.write.ensures.made.answer)

pub returns-clause-crash : goal.returns-clause-crash
returns-clause-crash c = let a = c.args in
    write_crash c.write.result (calls_of a.self.now) _ a.name a.at a.bytes.now (grew c.write.result a.self.now _ a.name (Write a.at) a.bytes.now c.write.ensures.made.calls c.write.ensures.made.answer)

pub returns-clause-time : goal.returns-clause-time
returns-clause-time c = let a = c.args in
    elapsed c.write.result (calls_of a.self.now) _ a.name (Write a.at) a.bytes.now (grew c.write.result a.self.now _ a.name (Write a.at) a.bytes.now c.write.ensures.made.calls c.write.ensures.made.answer)
