use Rattle.std.proofs.Common.{◌≡◌}
use Rattle.dv_shelf.specs.Folders.{counted, mail_reads_of}
use Rattle.dv_stopping.specs.Turns.{Looks}
use Rattle.dv_stopping.proofs.Turns.{kept_follow}
use Rattle.dv_stopping.proofs.shelf.StoppingShelf.read.Goals as goal

pub returns-clause-crash : goal.returns-clause-crash
returns-clause-crash g c = λ tells.
    let S = g.S.Shelf in
    kept_follow S.sees g.met.S.Shelf.only_now _ (Looks S.sees (λ files bytes. bytes ≡ files c.args.name) (λ reads. counted reads (mail_reads_of c.args.name))) _ _ _ c.pass_read.result (λ a b r did. did.kept tells) tells c.pass_read.ensures.turn
