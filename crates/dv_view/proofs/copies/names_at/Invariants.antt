use Rattle.std.proofs.Common.{◌≡◌, take}
use Rattle.dv_view.specs.Tells.{names_at}
use Rattle.dv_view.proofs.copies.names_at.Given as goal

abbrev pub invariant-loop-place : goal.invariant-loop-place
invariant-loop-place l = l.made ≡ names_at l.names.names (take l.place-index l.places)
