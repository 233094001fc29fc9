use Rattle.std.proofs.Common.{◌≡◌, ◌+◌, drop}
use Rattle.dv_view.specs.Taken.{HasTaken}
use Rattle.dv_view.specs.Tells.{changes_of}
use Rattle.dv_view.proofs.replies.add_changes.Given as goal

abbrev pub invariant-loop-s : goal.invariant-loop-s
invariant-loop-s g l = record {
  counted : l.number ≡ l.s-index;
  taken : HasTaken g.R.Replies.with l.initial.said l.said;
  said : g.R.Replies.with l.said (changes_of l.names.names l.old (l.number + 1) (drop l.s-index l.new)) ≡ g.R.Replies.with l.initial.said (changes_of l.names.names l.old 1 l.new);
}
