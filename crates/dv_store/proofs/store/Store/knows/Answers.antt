use Rattle.dv_store.proofs.Known.{rest_knows}
use Rattle.dv_store.proofs.store.Store.knows.Goals as goal

pub returns : goal.returns
returns g c = λ tells log debt rest.
    let S = g.S.Shelf in
    rest_knows S.sees log debt c.args.self.now (g.met.S.Shelf.leaves_files c.args.self.now.shelf tells) rest
