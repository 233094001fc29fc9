use Rattle.std.proofs.Common.{◌≡◌, rules, subst, sym}
use Rattle.std.proofs.lemmas.Result.{err_from_is_err_and}
use Rattle.dv_pop3.specs.Clients.{IsListing}
use Rattle.dv_pop3.proofs.Listed.{rows_listed}
use Rattle.dv_pop3.proofs.Quiet.{quiet_unlisted}
use Rattle.dv_pop3.proofs.listing.list_all.Goals as goal

pub returns-in_err-rows-clause-left : goal.returns-in_err-rows-clause-left
returns-in_err-rows-clause-left g c h =
    let p = err_from_is_err_and c.from_residual.result c.from_residual.ensures.1 in
    rw (p.1, p.2) (c.in_err-rows.ensures.left h)

pub returns-in_err-maildrop-clause-left : goal.returns-in_err-maildrop-clause-left
returns-in_err-maildrop-clause-left g c h =
    let p = err_from_is_err_and c.from_residual-in_err-maildrop.result c.from_residual-in_err-maildrop.ensures.1 in
    rw (p.1, p.2) (quiet_unlisted g.K.Keeping.count c.args.s.now c.size_all.new.s (c.in_ok-rows.ensures.rows h).quiet)

pub returns-clause-listed : goal.returns-clause-listed
returns-clause-listed g c h =
    let k = g.K.Keeping in
    rows_listed k.start c.in_ok-rows.rows c.in_ok-maildrop.maildrop c.args.s.now c.size_all.new.s (c.in_ok-rows.ensures.rows h) (search rules)

pub returns-clause-given : goal.returns-clause-given
returns-clause-given g c h =
    let same : c.in_ok-maildrop.maildrop.rows ≡ c.in_ok-rows.rows = search rules in
    subst (λ rows. IsListing rows c.size_all.new.s.follower.state) (sym same) (c.in_ok-rows.ensures.rows h).given
