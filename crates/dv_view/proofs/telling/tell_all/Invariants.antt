use Rattle.dv_view.specs.Told.{IsToldTo}
use Rattle.dv_view.proofs.telling.tell_all.Given as goal

abbrev pub invariant-loop-at : goal.invariant-loop-at
invariant-loop-at l = IsToldTo l.step l.rows l.fresh l.at l.told
