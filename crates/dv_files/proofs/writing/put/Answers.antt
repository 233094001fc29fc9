use Rattle.std.proofs.Common.{List, ℕ, subst}
use Rattle.dv_shelf.specs.declared.shelf.Name.TheVariants as name
use Rattle.dv_files.specs.Leavings.{IsPut, Leaves, Puts}
use Rattle.dv_files.proofs.Replacing.{puts_either, replaced}
use Rattle.dv_files.proofs.Beside.{put_beside, rests_beside}
use Rattle.dv_files.proofs.Holding.{put_holds}
use Rattle.dv_files.proofs.writing.put.Goals as goal

pub returns-clause-leaves : goal.returns-clause-leaves
returns-clause-leaves g c = λ tells.
    let S = g.S.Shelf in
    let n = name.Mail c.args.uid in
    let old = c.args.shelf.now in
    let new = c.replace.new.self in
    subst (λ (t : List ℕ). Leaves S.sees (Puts n t c.replace.result) (IsPut n t) old new) c.as_slice.ensures
    (replaced S.sees old new n c.as_slice.result.now c.replace.result (λ f left. g.met.S.Shelf.only_now old f tells left)
    (c.replace.ensures.ok tells) (c.replace.ensures.err tells) (c.replace.ensures.durable tells) (c.replace.ensures.crash tells) (c.replace.ensures.time tells))

pub returns-clause-held : goal.returns-clause-held
returns-clause-held g c = λ tells message guid is.
    let S = g.S.Shelf in
    put_holds S.sees c.args.shelf.now c.replace.new.self c.args.uid message guid c.args.text.now c.as_slice.result.now c.replace.result c.as_slice.ensures is
    (c.replace.ensures.ok tells) (c.replace.ensures.durable tells)

pub returns-clause-quiet : goal.returns-clause-quiet
returns-clause-quiet g c = λ tells owed chain rests.
    let S = g.S.Shelf in
    let uid = c.args.uid in
    let text = c.args.text.now in
    let n = name.Mail uid in
    rests_beside S.sees c.args.shelf.now c.replace.new.self (Puts n text c.replace.result) (IsPut n text) owed chain
    (λ d f puts. put_beside uid text d f (puts_either n text c.replace.result d f puts)) (λ d f put. put_beside uid text d f put) (returns-clause-leaves g c tells) rests
