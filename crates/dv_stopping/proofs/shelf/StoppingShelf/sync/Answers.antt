use Rattle.dv_stopping.specs.Turns.{Syncs}
use Rattle.dv_stopping.proofs.Turns.{kept_follow}
use Rattle.dv_stopping.proofs.shelf.StoppingShelf.sync.Goals as goal

pub returns-clause-crash : goal.returns-clause-crash
returns-clause-crash g c = λ tells.
    let S = g.S.Shelf in
    kept_follow S.sees g.met.S.Shelf.only_now _ (Syncs S.sees c.args.name) _ _ _ c.pass_sync.result (λ a b r did. did.kept tells) tells c.pass_sync.ensures.turn
