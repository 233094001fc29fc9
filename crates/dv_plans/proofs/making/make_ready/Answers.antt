use Rattle.std.proofs.Common.{◌≡◌, ℕ, List, Option, Ok, refl, subst, ◌∙◌}
use Rattle.std.specs.Prelude.{IfSome}
use Rattle.std.proofs.lemmas.Result.{err_from_is_err_and}
use Rattle.dv_plans.specs.declared.plan.Plan.{Plan}
use Rattle.dv_plans.specs.Limits.{Decides}
use Rattle.dv_plans.specs.Overs.{group_over, limit_over}
use Rattle.dv_plans.specs.Begins.{readings_of}
use Rattle.dv_groups.specs.Changes.{changed_uids}
use Rattle.dv_plans.specs.Befores.{ReadsFor}
use Rattle.dv_plans.specs.Counts.{CountsReads, CountsUpTo}
use Rattle.dv_plans.proofs.Counts.{few_counted, reads_none}
use Rattle.dv_plans.proofs.Decided.{passed_decided}
use Rattle.dv_plans.proofs.Timed.{readings_none, readings_told}
use Rattle.dv_plans.proofs.making.make_ready.Goals as goal

pub returns-in_err-found-clause-decides : goal.returns-in_err-found-clause-decides
returns-in_err-found-clause-decides g c = λ guid sizes.
    let p = err_from_is_err_and c.from_residual.result c.from_residual.ensures.1 in
    let met = limit_over c.args.c.now c.args.view.now c.args.chain.now guid in
    let group = group_over c.args.c.now c.args.view.now c.args.chain.now guid in
    rw (p.1, p.2) (passed_decided (List ℕ) Plan met group c.in_err-found.field-0.0 (c.in_err-found.ensures.decides guid sizes))

pub returns-in-None-clause-decides : goal.returns-in-None-clause-decides
returns-in-None-clause-decides g c = λ guid sizes.
    let met = limit_over c.args.c.now c.args.view.now c.args.chain.now guid in
    let group = group_over c.args.c.now c.args.view.now c.args.chain.now guid in
    subst (λ (o : Option (List ℕ)). Decides {A = List ℕ} met group (Ok o)) c.in-None.is (c.in_ok-found.ensures.decides guid sizes)

pub make_plan-requires-clause-written : goal.make_plan-requires-clause-written
make_plan-requires-clause-written g c = λ guid sizes.
    let met = limit_over c.args.c.now c.args.view.now c.args.chain.now guid in
    let group = group_over c.args.c.now c.args.view.now c.args.chain.now guid in
    subst (λ (o : Option (List ℕ)). Decides {A = List ℕ} met group (Ok o)) c.in-Some.is (c.in_ok-found.ensures.decides guid sizes)

pub returns-in-Ok-clause-decides : goal.returns-in-Ok-clause-decides
returns-in-Ok-clause-decides g c = λ guid sizes.
    let met = limit_over c.args.c.now c.args.view.now c.args.chain.now guid in
    let group = group_over c.args.c.now c.args.view.now c.args.chain.now guid in
    subst (λ (o : Option (List ℕ)). Decides {A = List ℕ} met group (Ok o)) c.in-Some.is (c.in_ok-found.ensures.decides guid sizes)

pub returns-in_err-found-clause-clock : goal.returns-in_err-found-clause-clock
returns-in_err-found-clause-clock g c = λ tells.
    let p = err_from_is_err_and c.from_residual.result c.from_residual.ensures.1 in
    rw (p.1, p.2) ((readings_none (List ℕ) Plan (readings_of c.args.c.now c.args.owed.now c.args.chain.now) (g.C.Clock.sees.upcoming c.args.clock.now) c.in_err-found.field-0.0 c.in_err-found.ensures.disk, tt))

pub returns-clause-clock : goal.returns-clause-clock
returns-clause-clock g c = λ tells.
    rw c.chain_fault.ensures ((readings_told Plan (readings_of c.args.c.now c.args.owed.now c.args.chain.now) (g.C.Clock.sees.upcoming c.args.clock.now) (g.C.Clock.sees.upcoming c.make_plan.new.clock) c.in-Err.fault (c.in-Err.ensures.clock tells).0, tt))

pub returns-in_err-found-clause-mail_reads : goal.returns-in_err-found-clause-mail_reads
returns-in_err-found-clause-mail_reads g c =
    let S = g.S.Shelf in
    let chain = c.args.chain.now in
    let shelf = c.args.shelf.now in
    let reads = S.sees.mail_reads shelf in
    let uids = changed_uids c.args.c.now c.args.view.now chain.live.mailbox in
    let p = err_from_is_err_and c.from_residual.result c.from_residual.ensures.1 in
    rw p.1 (reads_none S.sees c.args.c.now chain uids shelf shelf CountsUpTo refl (λ n. few_counted n reads reads refl))

pub returns-in-None-clause-mail_reads : goal.returns-in-None-clause-mail_reads
returns-in-None-clause-mail_reads g c =
    let S = g.S.Shelf in
    let chain = c.args.chain.now in
    let shelf = c.args.shelf.now in
    let reads = S.sees.mail_reads shelf in
    let uids = changed_uids c.args.c.now c.args.view.now chain.live.mailbox in
    reads_none S.sees c.args.c.now chain uids shelf shelf CountsUpTo refl (λ n. few_counted n reads reads refl)

pub returns-in-Ok-clause-mail_reads : goal.returns-in-Ok-clause-mail_reads
returns-in-Ok-clause-mail_reads g c =
    let S = g.S.Shelf in
    let chain = c.args.chain.now in
    let all = changed_uids c.args.c.now c.args.view.now chain.live.mailbox in
    let found : c.in-Some.uids ≡ all = subst (λ (o : Option (List ℕ)). IfSome o (λ us. us ≡ all)) c.in-Some.is c.in_ok-found.ensures.uids in
    subst (λ (us : List ℕ). ReadsFor S.sees c.args.c.now chain us c.args.shelf.now c.make_plan.new.shelf CountsReads) (c.as_slice.ensures ∙ found) c.in-Ok.ensures.mail_reads

pub returns-clause-mail_reads : goal.returns-clause-mail_reads
returns-clause-mail_reads g c =
    let S = g.S.Shelf in
    let chain = c.args.chain.now in
    let all = changed_uids c.args.c.now c.args.view.now chain.live.mailbox in
    let found : c.in-Some.uids ≡ all = subst (λ (o : Option (List ℕ)). IfSome o (λ us. us ≡ all)) c.in-Some.is c.in_ok-found.ensures.uids in
    subst (λ (us : List ℕ). ReadsFor S.sees c.args.c.now chain us c.args.shelf.now c.make_plan.new.shelf CountsUpTo) (c.as_slice.ensures ∙ found) c.in-Err.ensures.mail_reads
