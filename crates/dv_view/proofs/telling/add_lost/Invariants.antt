use Rattle.std.proofs.Common.{◌≡◌, ◌≤◌, length, take}
use Rattle.dv_view.specs.Taken.{HasTaken}
use Rattle.dv_view.proofs.Losing.{expunges, lost}
use Rattle.dv_view.proofs.telling.add_lost.Given as goal

abbrev pub invariant-loop-at : goal.invariant-loop-at
invariant-loop-at g l = record {
  inside : l.at ≤ length l.fresh;
  taken : HasTaken g.R.Replies.with l.initial.said l.said;
  said : g.R.Replies.with l.said (expunges (lost l.rows (take l.at l.fresh))) ≡ g.R.Replies.with l.initial.said (expunges (lost l.rows l.fresh));
}

abbrev pub decreases-loop-at : goal.decreases-loop-at
decreases-loop-at g l = l.at
