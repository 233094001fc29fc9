use Rattle.std.proofs.Common.{List, ℕ, subst}
use Rattle.dv_files.specs.Leavings.{IsPut, Leaves, Puts}
use Rattle.dv_files.proofs.Replacing.{replaced}
use Rattle.dv_files.proofs.storing.put.Goals as goal

pub returns-clause-leaves : goal.returns-clause-leaves
returns-clause-leaves g c = λ tells.
    let S = g.S.Shelf in
    let old = c.args.shelf.now in
    let new = c.replace.new.self in
    subst (λ (t : List ℕ). Leaves S.sees (Puts c.args.name t c.replace.result) (IsPut c.args.name t) old new) c.as_slice.ensures
    (replaced S.sees old new c.args.name c.as_slice.result.now c.replace.result (λ f left. g.met.S.Shelf.only_now old f tells left)
    (c.replace.ensures.ok tells) (c.replace.ensures.err tells) (c.replace.ensures.durable tells) (c.replace.ensures.crash tells) (c.replace.ensures.time tells))
