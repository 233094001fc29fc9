use Rattle.dv_chain.proofs.Shelves.{looked_both}
use Rattle.dv_chain.proofs.opening.read_files.Goals as goal

pub returns-in_err-index-clause-looks : goal.returns-in_err-index-clause-looks
returns-in_err-index-clause-looks g c = λ tells.
    let S = g.S.Shelf in
    let two = looked_both S.sees c.args.shelf.now c.read_log.new.shelf c.read_rotated.new.shelf (c.read_log.ensures.looks tells) (c.read_rotated.ensures.looks tells) in
    looked_both S.sees c.args.shelf.now c.read_rotated.new.shelf c.read_snapshot.new.shelf two (c.read_snapshot.ensures.looks tells)

pub returns-clause-looks : goal.returns-clause-looks
returns-clause-looks g c = λ tells.
    let S = g.S.Shelf in
    let two = looked_both S.sees c.args.shelf.now c.read_log.new.shelf c.read_rotated.new.shelf (c.read_log.ensures.looks tells) (c.read_rotated.ensures.looks tells) in
    looked_both S.sees c.args.shelf.now c.read_rotated.new.shelf c.read_snapshot.new.shelf two (c.read_snapshot.ensures.looks tells)
