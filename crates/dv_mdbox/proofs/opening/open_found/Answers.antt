use Rattle.dv_mdbox.proofs.Opened.{opens_chain}
use Rattle.dv_mdbox.proofs.opening.open_found.Goals as goal

pub returns-clause-opens : goal.returns-clause-opens
returns-clause-opens g c = λ tells settled.
    let S = g.S.Shelf in
    let done = c.open.ensures in
    opens_chain S.sees c.args.shelf.now c.open.new.shelf c.open.result (done.found tells) (done.quiet tells settled) (done.settled tells settled) (done.files tells) (done.rests tells settled)
