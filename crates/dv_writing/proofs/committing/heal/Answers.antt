use Rattle.std.proofs.Common.{refl}
use Rattle.dv_writing.proofs.Shelves.{heals}
use Rattle.dv_writing.proofs.committing.heal.Goals as goal

pub returns-clause-opens : goal.returns-clause-opens
returns-clause-opens g c = λ tells owed rest.
    let S = g.S.Shelf in
    let old = c.args.shelf.now in
    let new = c.heal.new.shelf in
    heals S.sees c.args.chain.now _ old new c.heal.result refl refl refl c.heal.ensures.value c.heal.ensures.nothing (λ f left. g.met.S.Shelf.only_now old f tells left)
    owed rest (c.heal.ensures.bytes tells) (λ text group at. c.heal.ensures.reading text group tells at) (λ le f left. g.met.S.Shelf.counts_now new (S.sees.moment old) f le left)
