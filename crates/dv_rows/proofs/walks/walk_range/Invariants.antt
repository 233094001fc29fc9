use Rattle.std.proofs.Common.{length, ◌-◌}
use Rattle.dv_rows.specs.Noted.{IsTally}
use Rattle.dv_rows.proofs.Walking.{WalksTo}
use Rattle.dv_rows.proofs.walks.walk_range.Given as goal

abbrev pub invariant-loop-at : goal.invariant-loop-at
invariant-loop-at g l = record {
  walks : WalksTo g.R.Range.lowest g.R.Range.highest (g.S.Step.after l.step) l.range l.initial.rows l.initial.notes l.initial.at l.at l.rows l.notes;
  tally : IsTally l.counts l.notes;
}

abbrev pub decreases-loop-at : goal.decreases-loop-at
decreases-loop-at g l = length l.initial.rows - l.at
