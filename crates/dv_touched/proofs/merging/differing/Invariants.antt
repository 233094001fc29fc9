use Rattle.dv_touched.specs.Telling.{Differs}
use Rattle.dv_touched.proofs.Told.{ArePicked}
use Rattle.dv_touched.proofs.merging.differing.Given as goal

abbrev pub invariant-loop-uid : goal.invariant-loop-uid
invariant-loop-uid l = ArePicked (Differs l.old.rows l.new.rows) l.uids l.uid-index l.made.items
