use Rattle.dv_shelf.specs.Folders.{Lists}
use Rattle.dv_stopping.specs.Turns.{Looks}
use Rattle.dv_stopping.proofs.Turns.{kept_follow}
use Rattle.dv_stopping.proofs.shelf.StoppingShelf.list.Goals as goal

pub returns-clause-crash : goal.returns-clause-crash
returns-clause-crash g c = λ tells.
    let S = g.S.Shelf in
    kept_follow S.sees g.met.S.Shelf.only_now _ (Looks S.sees (λ files names. Lists files names) (λ reads. reads)) _ _ _ c.pass_list.result (λ a b r did. did.kept tells) tells c.pass_list.ensures.turn
