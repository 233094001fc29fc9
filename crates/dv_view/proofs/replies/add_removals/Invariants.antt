use Rattle.std.proofs.Common.{◌≡◌, ◌≤◌, length, take}
use Rattle.dv_view.specs.Taken.{HasTaken}
use Rattle.dv_view.specs.Tells.{removals_of}
use Rattle.dv_view.proofs.replies.add_removals.Given as goal

abbrev pub invariant-loop-number : goal.invariant-loop-number
invariant-loop-number g l = record {
  inside : l.number ≤ length l.old;
  taken : HasTaken g.R.Replies.with l.initial.said l.said;
  said : g.R.Replies.with l.said (removals_of l.new (take l.number l.old)) ≡ g.R.Replies.with l.initial.said (removals_of l.new l.old);
}

abbrev pub decreases-loop-number : goal.decreases-loop-number
decreases-loop-number g l = l.number
