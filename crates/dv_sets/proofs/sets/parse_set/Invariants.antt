use Rattle.std.proofs.Common.{length}
use Rattle.dv_sets.proofs.Reading.{IsReadTo}
use Rattle.dv_sets.proofs.sets.parse_set.Given as goal

abbrev pub invariant-pieces : goal.invariant-pieces
invariant-pieces l = IsReadTo l.b l.set l.text

abbrev pub decreases-pieces : goal.decreases-pieces
decreases-pieces l = length l.text
