use Rattle.dv_mdbox_serving.proofs.Opened.{begins, unopened}
use Rattle.dv_mdbox_serving.proofs.opening.open_storage.Goals as goal

pub returns-clause-begins : goal.returns-clause-begins
returns-clause-begins g c = λ tells settled start from.
    let S = g.S.Shelf in
    let C = g.C.Clock in
    let done = c.open.ensures in
    begins S.sees c.args.shelf C.sees.tells (C.sees.upcoming c.args.clock 0) c.open.result (done.makes tells settled) done.fresh (done.opens tells settled) done.cause.later start from

pub returns-clause-unopened : goal.returns-clause-unopened
returns-clause-unopened g c = λ tells settled.
    let S = g.S.Shelf in
    let C = g.C.Clock in
    let done = c.open.ensures in
    unopened S.sees c.args.shelf C.sees.tells (C.sees.upcoming c.args.clock 0) c.open.result (done.makes tells settled) (done.found tells) (done.either tells settled) (λ s. g.met.S.Shelf.leaves_files s tells)
    (λ s f later left. g.met.S.Shelf.counts_now s (S.sees.moment c.args.shelf) f later left)
