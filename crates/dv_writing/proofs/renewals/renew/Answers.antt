use Rattle.std.proofs.Common.{◌≡◌, inr}
use Rattle.std.proofs.lemmas.Result.{err_from_is_err_and}
use Rattle.dv_shelf.specs.declared.shelf.Name.TheVariants as name
use Rattle.dv_files.specs.Leavings.{IsPut, Puts}
use Rattle.dv_files.proofs.Replacing.{puts_either}
use Rattle.dv_writing.specs.Renewals.{with_index}
use Rattle.dv_writing.proofs.Quiet.{quiet_both, quiet_steps}
use Rattle.dv_writing.proofs.Renewing.{both_renew, cache_put, first_renews, index_put}
use Rattle.dv_writing.proofs.renewals.renew.Goals as goal

pub returns-in_err-checkpoint-clause-leaves : goal.returns-in_err-checkpoint-clause-leaves
returns-in_err-checkpoint-clause-leaves g c = λ tells.
    let S = g.S.Shelf in
    let p = err_from_is_err_and c.from_residual.result c.from_residual.ensures.1 in
    rw (p.1) (first_renews S.sees c.args.index.now c.args.cache.now c.args.shelf.now c.checkpoint.new.shelf (c.in_err-checkpoint.ensures.leaves tells))

pub returns-in_err-checkpoint-clause-quiet : goal.returns-in_err-checkpoint-clause-quiet
returns-in_err-checkpoint-clause-quiet g c = λ tells log stands of.
    let S = g.S.Shelf in
    let chain = c.args.chain.now in
    let index = c.args.index.now in
    quiet_steps S.sees log chain c.args.shelf.now c.checkpoint.new.shelf (IsPut name.Index index) (IsPut name.Index index)
    (λ d f put has. index_put log chain d f has index c.requires.index put) (λ d f put has. index_put log chain d f has index c.requires.index put) (c.in_err-checkpoint.ensures.leaves tells) stands

pub returns-clause-leaves : goal.returns-clause-leaves
returns-clause-leaves g c = λ tells.
    let S = g.S.Shelf in
    both_renew S.sees c.args.index.now c.args.cache.now c.args.shelf.now c.checkpoint.new.shelf c.put_cache.new.shelf c.put_cache.result (c.in_ok-checkpoint.ensures.leaves tells) (c.put_cache.ensures.leaves tells)

pub returns-clause-quiet : goal.returns-clause-quiet
returns-clause-quiet g c = λ tells log stands of.
    let S = g.S.Shelf in
    let chain = c.args.chain.now in
    let index = c.args.index.now in
    let cache = c.args.cache.now in
    let mid = c.checkpoint.new.shelf in
    let first = quiet_steps S.sees log chain c.args.shelf.now mid (λ d f. f ≡ with_index index d) (IsPut name.Index index)
    (λ d f is has. index_put log chain d f has index c.requires.index (inr is)) (λ d f put has. index_put log chain d f has index c.requires.index put) (c.in_ok-checkpoint.ensures.leaves tells) stands in
    quiet_both S.sees log chain c.args.shelf.now mid c.put_cache.new.shelf first
    (quiet_steps S.sees log chain mid c.put_cache.new.shelf (Puts name.Cache cache c.put_cache.result) (IsPut name.Cache cache)
    (λ d f puts has. cache_put log chain d f has cache of (puts_either name.Cache cache c.put_cache.result d f puts)) (λ d f put has. cache_put log chain d f has cache of put) (c.put_cache.ensures.leaves tells) first.stands)
