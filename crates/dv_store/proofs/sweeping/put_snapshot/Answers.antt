use Rattle.dv_shelf.specs.declared.shelf.Name.TheVariants as name
use Rattle.dv_files.specs.Leavings.{IsPut, Puts}
use Rattle.dv_files.proofs.Replacing.{puts_either}
use Rattle.dv_writing.proofs.Quiet.{quiet_steps}
use Rattle.dv_writing.proofs.Renewing.{index_put, put_else}
use Rattle.dv_store.proofs.sweeping.put_snapshot.Goals as goal

pub returns-clause-cache : goal.returns-clause-cache
returns-clause-cache g c = λ tells.
    let S = g.S.Shelf in
    let old = S.sees.files c.args.shelf.now in
    let new = S.sees.files c.checkpoint.new.shelf in
    put_else name.Index name.Cache c.args.text.now old new (λ q. cc) (puts_either name.Index c.args.text.now c.checkpoint.result old new (c.checkpoint.ensures.leaves tells).seen)

pub returns-clause-quiet : goal.returns-clause-quiet
returns-clause-quiet g c = λ tells log stands.
    let S = g.S.Shelf in
    let chain = c.args.chain.now in
    let text = c.args.text.now in
    quiet_steps S.sees log chain c.args.shelf.now c.checkpoint.new.shelf (Puts name.Index text c.checkpoint.result) (IsPut name.Index text)
    (λ d f puts has. index_put log chain d f has text c.requires (puts_either name.Index text c.checkpoint.result d f puts)) (λ d f put has. index_put log chain d f has text c.requires put)
    (c.checkpoint.ensures.leaves tells) stands
