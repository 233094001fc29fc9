use Rattle.std.proofs.Common.{length}
use Rattle.dv_records.proofs.Loop.{IsReadTo}
use Rattle.dv_records.proofs.lists.read_all.Given as goal

abbrev pub invariant-loop-rest : goal.invariant-loop-rest
invariant-loop-rest g l = IsReadTo g.T.Read.size g.T.Read.spelled l.bytes l.items l.rest

abbrev pub decreases-loop-rest : goal.decreases-loop-rest
decreases-loop-rest g l = length l.rest
