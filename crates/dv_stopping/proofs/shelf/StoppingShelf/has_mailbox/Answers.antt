use Rattle.std.specs.Prelude.{MatchBool}
use Rattle.dv_shelf.specs.Folders.{IsNew}
use Rattle.dv_stopping.specs.Turns.{Looks}
use Rattle.dv_stopping.proofs.Turns.{kept_follow}
use Rattle.dv_stopping.proofs.shelf.StoppingShelf.has_mailbox.Goals as goal

pub returns-clause-crash : goal.returns-clause-crash
returns-clause-crash g c = λ tells.
    let S = g.S.Shelf in
    kept_follow S.sees g.met.S.Shelf.only_now _ (Looks S.sees (λ files has. MatchBool has (IsNew files → ⊥) (IsNew files)) (λ reads. reads)) _ _ _ c.pass_has_mailbox.result (λ a b r did. did.kept tells) tells c.pass_has_mailbox.ensures.turn
