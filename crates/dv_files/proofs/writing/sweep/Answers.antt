use Rattle.std.proofs.Common.{List, ℕ, ◌∙◌, arith, refl, subst, take}
use Rattle.std.proofs.lemmas.List.{take_all}
use Rattle.std.proofs.lemmas.Result.{err_from_is_err_and}
use Rattle.dv_files.specs.Leavings.{Leaves}
use Rattle.dv_files.specs.Writing.{IsSweeping, IsSwept}
use Rattle.dv_files.proofs.Beside.{rests_beside, swept_beside}
use Rattle.dv_files.proofs.Removing.{none_removed, one_failed, one_removed}
use Rattle.dv_files.proofs.writing.sweep.Goals as goal

pub loop-uid-init : goal.loop-uid-init
loop-uid-init g c =
    let S = g.S.Shelf in
    let old = c.args.shelf.now in
    record {
      leaves = λ tells. none_removed S.sees c.args.uids.now old (λ f left. g.met.S.Shelf.only_now old f tells left);
      mail_reads = refl;
      later = omega arith;
    }

pub loop-uid-preserved : goal.loop-uid-preserved
loop-uid-preserved g c =
    let S = g.S.Shelf in
    let so_far = c.loop-uid.invariant in
    record {
      leaves = λ tells.
          one_removed S.sees c.args.uids.now c.loop-uid.uid-index c.args.shelf.now c.loop-uid.shelf c.remove_mail.new.shelf c.loop-uid-test.true (so_far.leaves tells) (c.in_ok-remove_mail.ensures.leaves tells);
      mail_reads = c.remove_mail.ensures.mail_reads ∙ so_far.mail_reads;
      later = omega (arith, so_far.later, c.remove_mail.ensures.cause.later);
    }

pub returns-in_err-remove_mail-clause-leaves : goal.returns-in_err-remove_mail-clause-leaves
returns-in_err-remove_mail-clause-leaves g c = λ tells.
    let S = g.S.Shelf in
    let p = err_from_is_err_and c.from_residual.result c.from_residual.ensures.1 in
    rw (p.1, p.2)
    (one_failed S.sees c.args.uids.now c.loop-uid.uid-index c.args.shelf.now c.loop-uid.shelf c.remove_mail.new.shelf c.loop-uid-test.true (c.loop-uid.invariant.leaves tells) (c.in_err-remove_mail.ensures.leaves tells))

pub returns-clause-leaves : goal.returns-clause-leaves
returns-clause-leaves g c = λ tells.
    let S = g.S.Shelf in
    let uids = c.args.uids.now in
    subst (λ (us : List ℕ). Leaves S.sees (IsSwept us) (IsSweeping uids) c.args.shelf.now c.loop-uid.shelf)
    (take_all c.loop-uid.uid-index uids (omega arith)) (c.loop-uid.invariant.leaves tells)

pub returns-in_err-remove_mail-clause-quiet : goal.returns-in_err-remove_mail-clause-quiet
returns-in_err-remove_mail-clause-quiet g c = λ tells owed chain rests.
    let S = g.S.Shelf in
    let uids = c.args.uids.now in
    let old = c.args.shelf.now in
    let new = c.remove_mail.new.shelf in
    rests_beside S.sees old new (IsSweeping uids) (IsSweeping uids) owed chain
    (λ d f some. swept_beside (take some.0 uids) d f some.1) (λ d f some. swept_beside (take some.0 uids) d f some.1)
    (one_failed S.sees uids c.loop-uid.uid-index old c.loop-uid.shelf new c.loop-uid-test.true (c.loop-uid.invariant.leaves tells) (c.in_err-remove_mail.ensures.leaves tells)) rests

pub returns-clause-quiet : goal.returns-clause-quiet
returns-clause-quiet g c = λ tells owed chain rests.
    let S = g.S.Shelf in
    let uids = c.args.uids.now in
    rests_beside S.sees c.args.shelf.now c.loop-uid.shelf (IsSwept (take c.loop-uid.uid-index uids)) (IsSweeping uids) owed chain
    (λ d f is. swept_beside (take c.loop-uid.uid-index uids) d f is) (λ d f some. swept_beside (take some.0 uids) d f some.1) (c.loop-uid.invariant.leaves tells) rests
