use Rattle.std.proofs.Common.{ℕ, List, length, subst, sym}
use Rattle.dv_plans.specs.Counts.{CountsReads, CountsUpTo}
use Rattle.dv_plans.proofs.Counts.{reads_counted, some_counted}
use Rattle.dv_plans.proofs.Naming.{all_removed}
use Rattle.dv_plans.proofs.guids.removed_guids.Goals as goal

pub returns-in-Ok-clause-mail_reads : goal.returns-in-Ok-clause-mail_reads
returns-in-Ok-clause-mail_reads g c =
    let uids = c.args.uids.now in
    let before = g.S.Shelf.sees.mail_reads c.args.shelf.now in
    let now = g.S.Shelf.sees.mail_reads c.guids_of.new.shelf in
    subst (λ (us : List ℕ). CountsReads (length us) before now) (sym (all_removed c.args.c.now uids c.removes.result c.if-not-removes.false c.removes.ensures)) (reads_counted (length uids) before now c.in-Ok.ensures.mail_reads)

pub returns-in-Err-clause-mail_reads : goal.returns-in-Err-clause-mail_reads
returns-in-Err-clause-mail_reads g c =
    let uids = c.args.uids.now in
    let before = g.S.Shelf.sees.mail_reads c.args.shelf.now in
    let now = g.S.Shelf.sees.mail_reads c.guids_of.new.shelf in
    subst (λ (us : List ℕ). CountsUpTo (length us) before now) (sym (all_removed c.args.c.now uids c.removes.result c.if-not-removes.false c.removes.ensures)) (some_counted (length uids) before now c.in-Err.ensures.mail_reads)
