use Rattle.std.proofs.Common.{◌≡◌, map, take}
use Rattle.dv_view.specs.Tells.{fetch_of}
use Rattle.dv_view.specs.Told.{row_of}
use Rattle.dv_view.proofs.telling.add_told.Given as goal

abbrev pub invariant-loop-t : goal.invariant-loop-t
invariant-loop-t g l = l.said ≡ g.R.Replies.with l.initial.said (map (λ t. fetch_of l.names.names (row_of t)) (take l.t-index l.told))
