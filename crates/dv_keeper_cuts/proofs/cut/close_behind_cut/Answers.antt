use Rattle.std.proofs.Common.{subst}
use Rattle.dv_store.specs.States.{State}
use Rattle.dv_stopping.specs.Stops.{leavings}
use Rattle.dv_shared.specs.Kept.{notes_in}
use Rattle.dv_keeper_cuts.proofs.Kept.{acknowledged}
use Rattle.dv_keeper_cuts.proofs.cut.close_behind_cut.Goals as goal

pub returns : goal.returns
returns g c =
    let k = g.K.Keeping in
    let closed = c.close.ensures in
    record {
      acknowledged = λ h folder left.
          acknowledged k.start k.count (notes_in closed.0) closed.3.stands.notes_are c.args.sessions.items folder closed.4.begins
          (closed.5 h folder (subst (λ (store : State _ _). leavings g.S.Shelf.sees store.shelf folder) closed.1 left));
    }
