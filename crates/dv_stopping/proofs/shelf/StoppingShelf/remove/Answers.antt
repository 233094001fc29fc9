use Rattle.std.proofs.Common.{None}
use Rattle.dv_stopping.proofs.Turns.{replaces_follow}
use Rattle.dv_stopping.proofs.shelf.StoppingShelf.remove.Goals as goal

pub returns-clause-crash : goal.returns-clause-crash
returns-clause-crash g c = λ tells.
    replaces_follow g.S.Shelf.sees g.met.S.Shelf.only_now _ c.args.name None _ c.args.self.now c.pass_remove.new.self c.pass_remove.result tells c.pass_remove.ensures.turn
