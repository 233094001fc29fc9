use Rattle.std.proofs.Common.{length, ◌-◌}
use Rattle.dv_rows.proofs.Named.{NamesTo}
use Rattle.dv_rows.proofs.naming.name_range.Given as goal

abbrev pub invariant-loop-at : goal.invariant-loop-at
invariant-loop-at g l = NamesTo g.R.Range.lowest g.R.Range.highest l.range l.rows l.initial.at l.at l.initial.uids.items l.uids.items

abbrev pub decreases-loop-at : goal.decreases-loop-at
decreases-loop-at g l = length l.rows - l.at
