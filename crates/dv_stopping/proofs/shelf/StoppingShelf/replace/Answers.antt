use Rattle.std.proofs.Common.{Some}
use Rattle.dv_stopping.proofs.Turns.{replaces_follow}
use Rattle.dv_stopping.proofs.shelf.StoppingShelf.replace.Goals as goal

pub returns-clause-crash : goal.returns-clause-crash
returns-clause-crash g c = λ tells.
    replaces_follow g.S.Shelf.sees g.met.S.Shelf.only_now _ c.args.name (Some c.args.bytes.now) _ c.args.self.now c.pass_replace.new.self c.pass_replace.result tells c.pass_replace.ensures.turn
