use Rattle.std.proofs.Common.{◌≡◌, List, None, Some, refl, rules, subst}
use Rattle.std.proofs.lemmas.Result.{err_from_is_err_and}
use Rattle.dv_maildrop.specs.declared.types.Listed.{Listed}
use Rattle.dv_shared.specs.Kept.{notes_in}
use Rattle.dv_pop3.specs.Listings.{fetch_sizes}
use Rattle.dv_pop3.specs.Logins.{ListsRows}
use Rattle.dv_pop3.proofs.Later.{none_refused}
use Rattle.dv_pop3.proofs.Listed.{sizes_failed, sizes_listed, taken_sizes}
use Rattle.dv_pop3.proofs.Quiet.{left_fresh, left_unlisted}
use Rattle.dv_pop3.proofs.listing.size_all.Goals as goal

pub select_and_read-requires-clause-allowed : goal.select_and_read-requires-clause-allowed
select_and_read-requires-clause-allowed g c x selected = rw c.in_ok-command.ensures (none_refused x fetch_sizes selected refl)

pub returns-in_err-select_and_read-clause-left : goal.returns-in_err-select_and_read-clause-left
returns-in_err-select_and_read-clause-left g c h =
    let p = err_from_is_err_and c.from_residual-in_err-select_and_read.result c.from_residual-in_err-select_and_read.ensures.1 in
    let k = g.K.Keeping in
    let read = c.in_err-select_and_read.ensures.read in
    rw (p.1, p.2) (left_unlisted k.count k.start (notes_in read.0) read.1 c.args.s.now c.select_and_read.new.s c.requires.fresh c.in_err-select_and_read.field-0.0 read.3)

pub returns-in_err-select_and_read-clause-fresh : goal.returns-in_err-select_and_read-clause-fresh
returns-in_err-select_and_read-clause-fresh g c =
    let k = g.K.Keeping in
    let read = c.select_and_read.ensures.read in
    left_fresh k.count k.start (notes_in read.0) read.1 c.args.s.now c.select_and_read.new.s c.requires.fresh c.select_and_read.result read.3

pub returns-in-Some-clause-left : goal.returns-in-Some-clause-left
returns-in-Some-clause-left g c h =
    let k = g.K.Keeping in
    let old = c.args.s.now in
    let new = c.select_and_read.new.s in
    let read = c.select_and_read.ensures.read in
    let fresh = left_fresh k.count k.start (notes_in read.0) read.1 old new c.requires.fresh c.select_and_read.result read.3 in
    let has = taken_sizes k.start k.count old new c.number.ensures.session c.number-2.ensures.session c.requires.fresh fresh c.select_and_read.ensures.begins c.in_ok-command.command c.in_ok-command.ensures c.new-sizes.result c.select_and_read.new.replies c.new-sizes.ensures c.in_ok-select_and_read.field-0 (c.in_ok-select_and_read.ensures.turn h) in
    let failed : c.select_and_read.new.replies.failure ≡ Some c.in-Some.faults = search rules in
    let failure = sizes_failed k.start k.count c.select_and_read.new.replies old new c.in-Some.faults has failed in
    (failure.0, failure.1, fresh)

pub returns-clause-rows : goal.returns-clause-rows
returns-clause-rows g c h =
    let k = g.K.Keeping in
    let old = c.args.s.now in
    let new = c.select_and_read.new.s in
    let read = c.select_and_read.ensures.read in
    let fresh = left_fresh k.count k.start (notes_in read.0) read.1 old new c.requires.fresh c.select_and_read.result read.3 in
    let has = taken_sizes k.start k.count old new c.number.ensures.session c.number-2.ensures.session c.requires.fresh fresh c.select_and_read.ensures.begins c.in_ok-command.command c.in_ok-command.ensures c.new-sizes.result c.select_and_read.new.replies c.new-sizes.ensures c.in_ok-select_and_read.field-0 (c.in_ok-select_and_read.ensures.turn h) in
    let none : c.select_and_read.new.replies.failure ≡ None = search rules in
    let rows : c.select_and_read.new.replies.rows ≡ c.into_parts-rows.result.0 = search rules in
    subst (λ (rows : List Listed). ListsRows k.start rows old new) rows (sizes_listed k.start k.count c.select_and_read.new.replies old new has none)
