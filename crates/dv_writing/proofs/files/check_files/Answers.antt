use Rattle.std.proofs.Common.{List, ℕ, subst, sym}
use Rattle.std.specs.Prelude.{All}
use Rattle.std.proofs.lemmas.Result.{err_from_is_err_and}
use Rattle.dv_files.specs.Leavings.{Leaves}
use Rattle.dv_files.specs.Writing.{IsSweeping, IsSwept}
use Rattle.dv_writing.specs.Removals.{IsFree}
use Rattle.dv_writing.proofs.Quiet.{quiet_both}
use Rattle.dv_writing.proofs.Filing.{check_others, check_written, sweep_unnamed}
use Rattle.dv_logfile.proofs.Settling.{rose_settled, settled_then}
use Rattle.dv_writing.proofs.Settling.{renewed_settled, swept_settled}
use Rattle.dv_writing.proofs.files.check_files.Goals as goal

pub clear-requires : goal.clear-requires
clear-requires g c = subst (All (IsFree c.args.chain.now.live.mailbox)) (sym c.as_slice.ensures) c.requires.0

pub renew-requires : goal.renew-requires
renew-requires g c = record { index = c.requires.1 }

pub returns-in_err-clear-clause-written : goal.returns-in_err-clear-clause-written
returns-in_err-clear-clause-written g c = λ tells.
    let p = err_from_is_err_and c.from_residual.result c.from_residual.ensures.1 in
    rw p.1 tt

pub returns-in_err-clear-clause-others : goal.returns-in_err-clear-clause-others
returns-in_err-clear-clause-others g c = λ tells.
    let S = g.S.Shelf in
    sweep_unnamed c.args.chain.now.live.mailbox c.args.renewal.now (S.sees.files c.args.shelf.now) (S.sees.files c.clear.new.shelf)
    (subst (λ (us : List ℕ). IsSweeping us (S.sees.files c.args.shelf.now) (S.sees.files c.clear.new.shelf)) c.as_slice.ensures (c.in_err-clear.ensures.leaves tells).seen)

pub returns-in_err-clear-clause-quiet : goal.returns-in_err-clear-clause-quiet
returns-in_err-clear-clause-quiet g c = λ tells log stands renews. c.in_err-clear.ensures.quiet tells log stands

pub returns-clause-written : goal.returns-clause-written
returns-clause-written g c = λ tells.
    let S = g.S.Shelf in
    let old = c.args.shelf.now in
    let mid = c.clear.new.shelf in
    let first = subst (λ (us : List ℕ). Leaves S.sees (IsSwept us) (IsSweeping us) old mid) c.as_slice.ensures (c.in_ok-clear.ensures.leaves tells) in
    check_written c.args.chain.now.live.mailbox c.args.renewal.now S.sees old mid c.renew.new.shelf c.renew.result first (c.renew.ensures.leaves tells)

pub returns-clause-others : goal.returns-clause-others
returns-clause-others g c = λ tells.
    let S = g.S.Shelf in
    let old = c.args.shelf.now in
    let mid = c.clear.new.shelf in
    let first = subst (λ (us : List ℕ). Leaves S.sees (IsSwept us) (IsSweeping us) old mid) c.as_slice.ensures (c.in_ok-clear.ensures.leaves tells) in
    check_others c.args.chain.now.live.mailbox c.args.renewal.now S.sees old mid c.renew.new.shelf c.renew.result first (c.renew.ensures.leaves tells)

pub returns-clause-quiet : goal.returns-clause-quiet
returns-clause-quiet g c = λ tells log stands renews.
    let S = g.S.Shelf in
    let first = c.in_ok-clear.ensures.quiet tells log stands in
    quiet_both S.sees log c.args.chain.now c.args.shelf.now c.clear.new.shelf c.renew.new.shelf first (c.renew.ensures.quiet tells log first.stands renews)

pub returns-in_err-clear-clause-settled : goal.returns-in_err-clear-clause-settled
returns-in_err-clear-clause-settled g c = λ tells.
    rose_settled g.S.Shelf.sees c.args.shelf.now c.clear.new.shelf c.in_err-clear.ensures.cause.rose

pub returns-clause-settled : goal.returns-clause-settled
returns-clause-settled g c = λ tells.
    let S = g.S.Shelf in
    let old = c.args.shelf.now in
    let mid = c.clear.new.shelf in
    let new = c.renew.new.shelf in
    let first = c.in_ok-clear.ensures in
    settled_then S.sees old mid new first.cause.later c.renew.ensures.cause.later
    (swept_settled S.sees old mid c.as_slice.result.now _ first.cause (first.leaves tells))
    (renewed_settled S.sees mid new c.args.renewal.now.index c.args.renewal.now.cache c.renew.result c.renew.ensures.cause (c.renew.ensures.leaves tells))
