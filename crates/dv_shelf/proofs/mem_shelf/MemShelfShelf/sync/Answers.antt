use Rattle.std.proofs.Common.{[]}
use Rattle.dv_shelf.specs.declared.record.Deed.TheVariants.{Sync}
use Rattle.dv_shelf.specs.MemShelves.{calls_of}
use Rattle.dv_shelf.proofs.ShelfLemmas.{grew, sync_reads, elapsed}
use Rattle.dv_shelf.proofs.ImageLemmas.{sync_crash, sync_durable}
use Rattle.dv_shelf.proofs.mem_shelf.MemShelfShelf.sync.Goals as goal

pub returns-clause-files : goal.returns-clause-files
returns-clause-files c = let a = c.args in
    sync_reads c.write.result (calls_of a.self.now) _ a.name [] (grew c.write.result a.self.now _ a.name Sync [] c.write.ensures.made.calls c.write.ensures.made.answer)

pub returns-clause-crash : goal.returns-clause-crash
returns-clause-crash c = let a = c.args in
    sync_crash c.write.result (calls_of a.self.now) _ a.name [] (grew c.write.result a.self.now _ a.name Sync [] c.write.ensures.made.calls c.write.ensures.made.answer)

pub returns-clause-durable : goal.returns-clause-durable
returns-clause-durable c = let a = c.args in
    sync_durable c.write.result (calls_of a.self.now) _ a.name [] (grew c.write.result a.self.now _ a.name Sync [] c.write.ensures.made.calls c.write.ensures.made.answer)

pub returns-clause-time : goal.returns-clause-time
returns-clause-time c = let a = c.args in
    elapsed c.write.result (calls_of a.self.now) _ a.name Sync [] (grew c.write.result a.self.now _ a.name Sync [] c.write.ensures.made.calls c.write.ensures.made.answer)
