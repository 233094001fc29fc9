use Rattle.dv_files.proofs.Resting.{looked_rests}
use Rattle.dv_files.proofs.turning.turn.Goals as goal

pub returns-in_err-log-clause-rests : goal.returns-in_err-log-clause-rests
returns-in_err-log-clause-rests g c = λ tells owed rests.
    let S = g.S.Shelf in
    looked_rests S.sees c.args.chain.now owed c.args.shelf.now c.read_log.new.shelf rests (c.read_log.ensures.looks tells)

pub returns-in_err-index-clause-rests : goal.returns-in_err-index-clause-rests
returns-in_err-index-clause-rests g c = λ tells owed rests.
    let S = g.S.Shelf in
    looked_rests S.sees c.args.chain.now owed c.args.shelf.now c.read_log.new.shelf rests (c.read_log.ensures.looks tells)

pub returns-in_err-old-clause-rests : goal.returns-in_err-old-clause-rests
returns-in_err-old-clause-rests g c = λ tells owed rests.
    let S = g.S.Shelf in
    looked_rests S.sees c.args.chain.now owed c.args.shelf.now c.read_log.new.shelf rests (c.read_log.ensures.looks tells)

pub returns-in_err-new-clause-rests : goal.returns-in_err-new-clause-rests
returns-in_err-new-clause-rests g c = λ tells owed rests.
    let S = g.S.Shelf in
    looked_rests S.sees c.args.chain.now owed c.args.shelf.now c.read_log.new.shelf rests (c.read_log.ensures.looks tells)

pub returns-clause-rests : goal.returns-clause-rests
returns-clause-rests g c = λ tells owed rests.
    let S = g.S.Shelf in
    looked_rests S.sees c.args.chain.now owed c.args.shelf.now c.read_log.new.shelf rests (c.read_log.ensures.looks tells)
