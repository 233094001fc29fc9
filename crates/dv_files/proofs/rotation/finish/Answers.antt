use Rattle.std.proofs.Common.{Err, Ok, refl}
use Rattle.std.proofs.lemmas.Result.{err_from_is_err_and}
use Rattle.dv_files.proofs.Resting.{finished_quiet}
use Rattle.dv_files.proofs.rotation.finish.Goals as goal

pub returns-in_err-put-clause-quiet : goal.returns-in_err-put-clause-quiet
returns-in_err-put-clause-quiet g c = λ tells rests.
    let S = g.S.Shelf in
    let p = err_from_is_err_and c.from_residual.result c.from_residual.ensures.1 in
    rw (p.1)
    (finished_quiet S.sees c.args.chain.now c.args.turn.now c.requires.turn c.requires.room (Err p.0) c.args.chain.now c.args.shelf.now c.put.new.shelf refl rests
    (c.in_err-put.ensures.leaves tells))

pub returns-clause-quiet : goal.returns-clause-quiet
returns-clause-quiet g c = λ tells rests.
    let S = g.S.Shelf in
    finished_quiet S.sees c.args.chain.now c.args.turn.now c.requires.turn c.requires.room (Ok tt) c.advance.new.chain c.args.shelf.now c.put.new.shelf c.advance.ensures rests
    (c.in_ok-put.ensures.leaves tells)
