use Rattle.std.proofs.Common.{◌≡◌, length}
use Rattle.dv_qresync.specs.Merging.{merged}
use Rattle.dv_qresync.proofs.merging.rewind.Given as goal

abbrev pub invariant-loop-row : goal.invariant-loop-row
invariant-loop-row l = merged l.merge ≡ merged l.initial.merge

abbrev pub decreases-loop-row : goal.decreases-loop-row
decreases-loop-row l = length l.merge.before.items
