use Rattle.std.proofs.Common.{[]}
use Rattle.dv_shelf.specs.declared.record.Deed.TheVariants.{Remove}
use Rattle.dv_shelf.specs.MemShelves.{calls_of}
use Rattle.dv_shelf.proofs.ShelfLemmas.{grew, remove_ok, remove_err, elapsed}
use Rattle.dv_shelf.proofs.ImageLemmas.{remove_crash, remove_durable}
use Rattle.dv_shelf.proofs.mem_shelf.MemShelfShelf.remove.Goals as goal

pub returns-clause-ok : goal.returns-clause-ok
returns-clause-ok c = let a = c.args in
    remove_ok c.write.result (calls_of a.self.now) _ a.name [] (grew c.write.result a.self.now _ a.name Remove [] c.write.ensures.made.calls c.write.ensures.made.answer)

pub returns-clause-err : goal.returns-clause-err
returns-clause-err c = let a = c.args in
    remove_err c.write.result (calls_of a.self.now) _ a.name [] (grew c.write.result a.self.now _ a.name Remove [] c.write.ensures.made.calls c.write.ensures.made.answer)

pub returns-clause-crash : goal.returns-clause-crash
returns-clause-crash c = let a = c.args in
    remove_crash c.write.result (calls_of a.self.now) _ a.name [] (grew c.write.result a.self.now _ a.name Remove [] c.write.ensures.made.calls c.write.ensures.made.answer)

pub returns-clause-durable : goal.returns-clause-durable
returns-clause-durable c = let a = c.args in
    remove_durable c.write.result (calls_of a.self.now) _ a.name [] (grew c.write.result a.self.now _ a.name Remove [] c.write.ensures.made.calls c.write.ensures.made.answer)

pub returns-clause-time : goal.returns-clause-time
returns-clause-time c = let a = c.args in
    elapsed c.write.result (calls_of a.self.now) _ a.name Remove [] (grew c.write.result a.self.now _ a.name Remove [] c.write.ensures.made.calls c.write.ensures.made.answer)
