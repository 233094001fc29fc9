use Rattle.std.proofs.Common.{◌∙◌, Err, Some, ap, subst}
use Rattle.std.proofs.lemmas.Result.{err_from_is_err_and}
use Rattle.dv_shelf.specs.Crashes.{IsSettled}
use Rattle.dv_shelf.specs.Folders.{Folder, with_file}
use Rattle.dv_shelf.specs.declared.shelf.Name.TheVariants.{Log}
use Rattle.dv_chain.proofs.Shelves.{settled_still}
use Rattle.dv_rebuild.specs.declared.rebuilding.Rebuilt.{Rebuilt}
use Rattle.dv_rebuild.specs.Rebuilding.{LeavesPut, Prepares}
use Rattle.dv_rebuild.proofs.Leaving.{fault_left, put_told, rebuilt_since, unless_so}
use Rattle.dv_rebuild.proofs.rebuilding.rebuild_at.Goals as goal

pub returns-in_err-put-in-Ok-Some-clause-files : goal.returns-in_err-put-in-Ok-Some-clause-files
returns-in_err-put-in-Ok-Some-clause-files g c = λ tells.
    let S = g.S.Shelf in
    let p = err_from_is_err_and c.from_residual.result c.from_residual.ensures.1 in
    let e = c.in_err-put-in-Ok-Some.field-0.0 in
    let looks = c.in-Ok-Some.ensures.looks tells in
    let new = S.sees.files c.put.new.shelf in
    rw (p.1, p.2)
    (fault_left (S.sees.files c.args.shelf.now) c.args.now c.in-Ok-Some.log c.in-Ok-Some.rebuilt (subst (Prepares (S.sees.files c.args.shelf.now) c.args.now) c.in-Ok-Some.field-0-is (c.in-Ok-Some.ensures.prepared tells)) c.ranges.now.fits new e
    (subst (λ (d : Folder). LeavesPut d c.in-Ok-Some.log.text new (Err e)) looks.same (c.in_err-put-in-Ok-Some.ensures.files tells)))

pub returns-in_err-put-in-Ok-Some-clause-since : goal.returns-in_err-put-in-Ok-Some-clause-since
returns-in_err-put-in-Ok-Some-clause-since g c = λ tells settled.
    let S = g.S.Shelf in
    let looks = c.in-Ok-Some.ensures.looks tells in
    let still = settled_still S.sees c.args.shelf.now c.prepare.new.shelf settled looks in
    rebuilt_since S.sees c.args.shelf.now c.prepare.new.shelf c.put.new.shelf c.args.now c.in-Ok-Some.log c.in-Ok-Some.rebuilt (subst (Prepares (S.sees.files c.args.shelf.now) c.args.now) c.in-Ok-Some.field-0-is (c.in-Ok-Some.ensures.prepared tells)) c.ranges.now.fits settled looks (c.put.ensures.since tells still)

pub returns-in_err-put-in-Ok-Some-clause-settled : goal.returns-in_err-put-in-Ok-Some-clause-settled
returns-in_err-put-in-Ok-Some-clause-settled g c = λ tells settled.
    let S = g.S.Shelf in
    let p = err_from_is_err_and c.from_residual.result c.from_residual.ensures.1 in
    let still = settled_still S.sees c.args.shelf.now c.prepare.new.shelf settled (c.in-Ok-Some.ensures.looks tells) in
    rw (p.1, p.2) (unless_so (Unit {0}) Rebuilt (IsSettled S.sees c.put.new.shelf) c.in_err-put-in-Ok-Some.field-0.0 (c.in_err-put-in-Ok-Some.ensures.settled tells still))

pub returns-in_ok-put-in-Ok-Some-clause-files : goal.returns-in_ok-put-in-Ok-Some-clause-files
returns-in_ok-put-in-Ok-Some-clause-files g c = λ tells.
    let S = g.S.Shelf in
    let looks = c.in-Ok-Some.ensures.looks tells in
    put_told (S.sees.files c.args.shelf.now) c.args.now c.in-Ok-Some.log c.in-Ok-Some.rebuilt (subst (Prepares (S.sees.files c.args.shelf.now) c.args.now) c.in-Ok-Some.field-0-is (c.in-Ok-Some.ensures.prepared tells)) c.ranges.now.fits (S.sees.files c.put.new.shelf)
    (c.in_ok-put-in-Ok-Some.ensures.files tells ∙ ap (λ (d : Folder). with_file d Log (Some c.in-Ok-Some.log.text)) looks.same)

pub returns-in_ok-put-in-Ok-Some-clause-since : goal.returns-in_ok-put-in-Ok-Some-clause-since
returns-in_ok-put-in-Ok-Some-clause-since g c = λ tells settled.
    let S = g.S.Shelf in
    let looks = c.in-Ok-Some.ensures.looks tells in
    let still = settled_still S.sees c.args.shelf.now c.prepare.new.shelf settled looks in
    rebuilt_since S.sees c.args.shelf.now c.prepare.new.shelf c.put.new.shelf c.args.now c.in-Ok-Some.log c.in-Ok-Some.rebuilt (subst (Prepares (S.sees.files c.args.shelf.now) c.args.now) c.in-Ok-Some.field-0-is (c.in-Ok-Some.ensures.prepared tells)) c.ranges.now.fits settled looks (c.put.ensures.since tells still)
