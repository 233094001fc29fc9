use Rattle.std.proofs.Common.{length}
use Rattle.dv_records.proofs.Checked.{IsCheckedTo}
use Rattle.dv_records.proofs.checking.are_items.Given as goal

abbrev pub invariant-loop-rest : goal.invariant-loop-rest
invariant-loop-rest g l = IsCheckedTo g.T.Read.size g.T.Read.spelled l.bytes l.rest

abbrev pub decreases-loop-rest : goal.decreases-loop-rest
decreases-loop-rest g l = length l.rest
