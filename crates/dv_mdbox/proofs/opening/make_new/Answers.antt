use Rattle.dv_mdbox.proofs.Opened.{bounds_made, makes_chain, none_of}
use Rattle.dv_mdbox.proofs.opening.make_new.Goals as goal

pub returns-clause-makes : goal.returns-clause-makes
returns-clause-makes g c = λ tells settled new.
    let S = g.S.Shelf in
    let old = c.args.shelf.now in
    let done = c.create.ensures in
    makes_chain S.sees old c.create.new.shelf c.args.now c.create.result done.first (done.since tells settled) (done.settled tells settled) (done.rests tells (none_of (S.sees.files old) new) settled)

pub returns-clause-bounds : goal.returns-clause-bounds
returns-clause-bounds g c = bounds_made c.args.now c.create.result c.create.ensures.first
