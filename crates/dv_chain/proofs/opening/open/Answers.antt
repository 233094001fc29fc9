use Rattle.std.proofs.Common.{Err, refl, subst}
use Rattle.std.proofs.lemmas.Result.{err_from_is_err_and}
use Rattle.dv_shelf.specs.Crashes.{IsSettled}
use Rattle.dv_shelf.specs.Folders.{Folder}
use Rattle.dv_chain.specs.declared.chain.Chain.{Chain}
use Rattle.dv_chain.specs.Openings.{LeavesMended}
use Rattle.dv_chain.proofs.Opened.{chain_of, fault_leaves, opened_quiet, still_there}
use Rattle.dv_chain.proofs.Rests.{opened_put, opened_rests}
use Rattle.dv_chain.proofs.Shelves.{settled_still, unless_so}
use Rattle.dv_chain.proofs.opening.open.Goals as goal

pub returns-in_err-mend-clause-files : goal.returns-in_err-mend-clause-files
returns-in_err-mend-clause-files g c = λ tells.
    let S = g.S.Shelf in
    let p = err_from_is_err_and c.from_residual-in_err-mend.result c.from_residual-in_err-mend.ensures.1 in
    let end = c.in_ok-log.ensures.ok tells in
    let looks = c.find.ensures.looks tells in
    let there = still_there S.sees c.args.shelf.now c.find.new.shelf c.in_ok-log.log end.is looks in
    let new = S.sees.files c.mend.new.shelf in
    rw (p.1, p.2)
    (fault_leaves (S.sees.files c.args.shelf.now) new c.in_ok-log.log end.is c.in_err-mend.field-0.0
    (subst (λ (d : Folder). LeavesMended d c.in_ok-log.log new (Err c.in_err-mend.field-0.0)) looks.same (c.in_err-mend.ensures.files tells there)))

pub returns-in_err-mend-clause-quiet : goal.returns-in_err-mend-clause-quiet
returns-in_err-mend-clause-quiet g c = λ tells settled.
    let S = g.S.Shelf in
    let end = c.in_ok-log.ensures.ok tells in
    let looks = c.find.ensures.looks tells in
    let there = still_there S.sees c.args.shelf.now c.find.new.shelf c.in_ok-log.log end.is looks in
    let still = settled_still S.sees c.args.shelf.now c.find.new.shelf settled looks in
    opened_quiet S.sees c.args.shelf.now c.find.new.shelf c.mend.new.shelf c.in_ok-log.log end.is settled looks (c.mend.ensures.since tells there still)

pub returns-in_err-mend-clause-settled : goal.returns-in_err-mend-clause-settled
returns-in_err-mend-clause-settled g c = λ tells settled.
    let S = g.S.Shelf in
    let p = err_from_is_err_and c.from_residual-in_err-mend.result c.from_residual-in_err-mend.ensures.1 in
    let still = settled_still S.sees c.args.shelf.now c.find.new.shelf settled (c.find.ensures.looks tells) in
    rw (p.1, p.2) (unless_so (Unit {0}) Chain (IsSettled S.sees c.mend.new.shelf) c.in_err-mend.field-0.0 (c.in_err-mend.ensures.settled tells still))

pub returns-clause-chain : goal.returns-clause-chain
returns-clause-chain g c = λ tells.
    let end = c.in_ok-log.ensures.ok tells in
    chain_of (g.S.Shelf.sees.files c.args.shelf.now) c.in_ok-log.log end.is _ refl refl refl refl refl refl

pub returns-clause-quiet : goal.returns-clause-quiet
returns-clause-quiet g c = λ tells settled.
    let S = g.S.Shelf in
    let end = c.in_ok-log.ensures.ok tells in
    let looks = c.find.ensures.looks tells in
    let there = still_there S.sees c.args.shelf.now c.find.new.shelf c.in_ok-log.log end.is looks in
    let still = settled_still S.sees c.args.shelf.now c.find.new.shelf settled looks in
    opened_quiet S.sees c.args.shelf.now c.find.new.shelf c.mend.new.shelf c.in_ok-log.log end.is settled looks (c.mend.ensures.since tells there still)

pub returns-clause-rests : goal.returns-clause-rests
returns-clause-rests g c = λ tells settled.
    let S = g.S.Shelf in
    let old = c.args.shelf.now in
    let end = c.in_ok-log.ensures.ok tells in
    let looks = c.find.ensures.looks tells in
    let there = still_there S.sees old c.find.new.shelf c.in_ok-log.log end.is looks in
    let still = settled_still S.sees old c.find.new.shelf settled looks in
    let put = opened_put (S.sees.files old) (S.sees.files c.find.new.shelf) (S.sees.files c.mend.new.shelf) c.in_ok-log.log end.is looks.same (c.in_ok-mend.ensures.files tells there) in
    opened_rests S.sees old c.mend.new.shelf _
    (chain_of (S.sees.files old) c.in_ok-log.log end.is _ refl refl refl refl refl refl)
    (record { end = c.in_ok-log.ensures.whole.fits; count = c.in_ok-log.ensures.whole.count; named = c.in_ok-log.ensures.whole.named })
    end.found put (c.in_ok-mend.ensures.settled tells still)
