use Rattle.dv_stopping.proofs.Turns.{writes_follow, writes_torn}
use Rattle.dv_stopping.proofs.shelf.StoppingShelf.write_at.Goals as goal

pub returns-clause-err : goal.returns-clause-err
returns-clause-err g c = λ tells.
    writes_torn g.S.Shelf.sees _ c.args.name c.args.at c.args.bytes.now _ c.args.self.now c.pass_write_at.new.self c.pass_write_at.result tells c.pass_write_at.ensures.turn

pub returns-clause-crash : goal.returns-clause-crash
returns-clause-crash g c = λ tells.
    writes_follow g.S.Shelf.sees g.met.S.Shelf.only_now _ c.args.name c.args.at c.args.bytes.now _ c.args.self.now c.pass_write_at.new.self c.pass_write_at.result tells c.pass_write_at.ensures.turn
