use Rattle.std.proofs.Common.{◌≡◌, drop, is_some}
use Rattle.std.specs.List.{list_any}
use Rattle.dv_view.specs.Following.{left_number}
use Rattle.dv_view.proofs.fresh_places.loses_row.Given as goal

abbrev pub invariant-loop-f : goal.invariant-loop-f
invariant-loop-f l = list_any (λ f. is_some (left_number l.rows f)) (drop l.f-index l.fresh) ≡ list_any (λ f. is_some (left_number l.rows f)) l.fresh
