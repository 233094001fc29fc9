use Rattle.std.proofs.Common.{◌∙◌, ap, subst, sym, arith}
use Rattle.std.proofs.lemmas.Result.{err_from_is_err_and}
use Rattle.dv_shelf.specs.declared.shelf.Name.TheVariants as name
use Rattle.dv_chain.specs.declared.chain.Chain.{Chain}
use Rattle.dv_writing.specs.Commits.{IsReady}
use Rattle.dv_writing.specs.Steps.{AreFilesFor}
use Rattle.dv_writing.specs.Writes.{log_with}
use Rattle.dv_writing.proofs.Ready.{no_debt}
use Rattle.dv_writing.proofs.Next.{may_renew}
use Rattle.dv_writing.proofs.Carried.{after_there, carry_done, carry_failed, carry_halted, carry_stopped, files_there, log_unnamed, next_here, pending_there, stores_done, stores_failed, stores_halted, stores_stopped, turned_behind, turned_here, turned_stopped}
use Rattle.dv_writing.proofs.Writing.{group_written}
use Rattle.dv_logfile.proofs.Settling.{settled_then}
use Rattle.dv_writing.proofs.carrying.carry_out.Goals as goal

pub make_way-requires-clause-due : goal.make_way-requires-clause-due
make_way-requires-clause-due g c = c.requires.steps.due

pub write_files-requires : goal.write_files-requires
write_files-requires g c = subst (λ (k : Chain). AreFilesFor k c.args.steps.files) (sym c.in_ok-make_way.ensures.value.ok.0) c.requires.steps.files

pub commit-requires-clause-ready : goal.commit-requires-clause-ready
commit-requires-clause-ready g c = subst (λ (k : Chain). IsReady c.args.text.now c.args.steps.prepared k) (sym c.in_ok-make_way.ensures.value.ok.0) c.requires.steps.group

pub commit-requires-clause-debt : goal.commit-requires-clause-debt
commit-requires-clause-debt g c = ap (λ (k : Chain). k.log.debt) c.in_ok-make_way.ensures.value.ok.0 ∙ no_debt c.args.chain.now c.args.owed.now c.args.steps.turn

pub returns-in_err-make_way-clause-value : goal.returns-in_err-make_way-clause-value
returns-in_err-make_way-clause-value g c =
    let p = err_from_is_err_and c.from_residual.result c.from_residual.ensures.1 in
    rw p.1 (carry_stopped c.args.owed.now c.args.text.now c.args.steps c.args.chain.now c.make_way.new.owed c.make_way.new.chain _ p.0 c.in_err-make_way.ensures.value)

pub returns-in_err-make_way-clause-gives : goal.returns-in_err-make_way-clause-gives
returns-in_err-make_way-clause-gives g c = λ tells log debt write fits stands is.
    let S = g.S.Shelf in
    let p = err_from_is_err_and c.from_residual.result c.from_residual.ensures.1 in
    rw p.1
    (stores_stopped S.sees log debt write c.args.owed.now c.args.text.now c.args.steps c.args.chain.now c.args.shelf.now is c.make_way.new.owed c.make_way.new.chain c.make_way.new.shelf _ p.0
    (c.in_err-make_way.ensures.quiet tells log debt fits stands is.closes) (c.in_err-make_way.ensures.files tells).others)

pub returns-in_err-write_files-clause-value : goal.returns-in_err-write_files-clause-value
returns-in_err-write_files-clause-value g c =
    let p = err_from_is_err_and c.from_residual-in_err-write_files.result c.from_residual-in_err-write_files.ensures.1 in
    rw p.1 (carry_halted c.args.owed.now c.args.text.now c.args.steps c.args.chain.now c.make_way.new.owed c.make_way.new.chain _ c.in_ok-make_way.ensures.value p.0)

pub returns-in_err-write_files-clause-gives : goal.returns-in_err-write_files-clause-gives
returns-in_err-write_files-clause-gives g c = λ tells log debt write fits stands is.
    let S = g.S.Shelf in
    let p = err_from_is_err_and c.from_residual-in_err-write_files.result c.from_residual-in_err-write_files.ensures.1 in
    let owed = c.args.owed.now in
    let text = c.args.text.now in
    let steps = c.args.steps in
    let chain = c.args.chain.now in
    let old = c.args.shelf.now in
    let left = c.make_way.new.owed in
    let mid = c.make_way.new.chain in
    let way = c.make_way.new.shelf in
    let value = c.in_ok-make_way.ensures.value in
    let quiet = c.in_ok-make_way.ensures.quiet tells log debt fits stands is.closes in
    let there = files_there S.sees log debt write owed text steps chain old is left mid way _ value in
    let before = c.in_err-write_files.ensures.quiet tells log quiet.ok (may_renew log write.received mid.live.mailbox write.command steps.files there) in
    rw p.1
    (stores_halted S.sees log debt write owed text steps chain old is left mid way _ value c.requires.steps.due fits quiet (c.in_ok-make_way.ensures.files tells).others
    c.write_files.new.shelf before (c.in_err-write_files.ensures.others tells) p.0)

pub returns-clause-value : goal.returns-clause-value
returns-clause-value g c =
    carry_failed c.args.owed.now c.args.text.now c.args.steps c.args.chain.now c.make_way.new.owed c.make_way.new.chain _ c.in_ok-make_way.ensures.value c.commit.new.chain _ _ c.in-Err.ensures.value

pub returns-in-Ok-clause-value : goal.returns-in-Ok-clause-value
returns-in-Ok-clause-value g c =
    carry_done c.args.owed.now c.args.text.now c.args.steps c.args.chain.now c.make_way.new.owed c.make_way.new.chain _ c.in_ok-make_way.ensures.value c.commit.new.chain _ c.in-Ok.ensures.value

pub returns-clause-gives : goal.returns-clause-gives
returns-clause-gives g c = λ tells log debt write fits stands is.
    let S = g.S.Shelf in
    let owed = c.args.owed.now in
    let text = c.args.text.now in
    let steps = c.args.steps in
    let chain = c.args.chain.now in
    let old = c.args.shelf.now in
    let left = c.make_way.new.owed in
    let mid = c.make_way.new.chain in
    let way = c.make_way.new.shelf in
    let between = c.write_files.new.shelf in
    let value = c.in_ok-make_way.ensures.value in
    let quiet = c.in_ok-make_way.ensures.quiet tells log debt fits stands is.closes in
    let there = files_there S.sees log debt write owed text steps chain old is left mid way _ value in
    let gives = after_there S.sees log debt write owed text steps chain old is left mid way _ value in
    let pending = pending_there S.sees log debt write owed text steps chain old is left mid way _ value in
    let before = c.in_ok-write_files.ensures.quiet tells log quiet.ok (may_renew log write.received mid.live.mailbox write.command steps.files there) in
    let next = next_here S.sees log debt write owed text steps chain old is left mid way _ value between (c.in_ok-write_files.ensures.next tells log write is.after quiet.ok gives there) in
    let group = c.in-Err.ensures.opens tells is.after pending before.stands.rests in
    stores_failed S.sees log debt write owed text steps chain old is left mid way _ value c.requires.steps.due fits quiet (c.in_ok-make_way.ensures.files tells).others
    between before (c.in_ok-write_files.ensures.others tells) c.commit.new.chain c.commit.new.shelf _ _ c.in-Err.ensures.value
    (group_written S.sees text log (log_with log write chain.live.mailbox) is.after mid c.commit.new.chain between c.commit.new.shelf before.stands pending next _ c.in-Err.ensures.value group
    (λ f left. g.met.S.Shelf.counts_now c.commit.new.shelf (S.sees.moment between) f group.any_moment.later left))

pub returns-in-Ok-clause-gives : goal.returns-in-Ok-clause-gives
returns-in-Ok-clause-gives g c = λ tells log debt write fits stands is.
    let S = g.S.Shelf in
    let owed = c.args.owed.now in
    let text = c.args.text.now in
    let steps = c.args.steps in
    let chain = c.args.chain.now in
    let old = c.args.shelf.now in
    let left = c.make_way.new.owed in
    let mid = c.make_way.new.chain in
    let way = c.make_way.new.shelf in
    let between = c.write_files.new.shelf in
    let value = c.in_ok-make_way.ensures.value in
    let quiet = c.in_ok-make_way.ensures.quiet tells log debt fits stands is.closes in
    let there = files_there S.sees log debt write owed text steps chain old is left mid way _ value in
    let gives = after_there S.sees log debt write owed text steps chain old is left mid way _ value in
    let pending = pending_there S.sees log debt write owed text steps chain old is left mid way _ value in
    let before = c.in_ok-write_files.ensures.quiet tells log quiet.ok (may_renew log write.received mid.live.mailbox write.command steps.files there) in
    let next = next_here S.sees log debt write owed text steps chain old is left mid way _ value between (c.in_ok-write_files.ensures.next tells log write is.after quiet.ok gives there) in
    let group = c.in-Ok.ensures.opens tells is.after pending before.stands.rests in
    stores_done S.sees log debt write owed text steps chain old is left mid way _ value c.requires.steps.due fits quiet (c.in_ok-make_way.ensures.files tells).others
    between before (c.in_ok-write_files.ensures.others tells) c.commit.new.chain c.commit.new.shelf _
    (group_written S.sees text log (log_with log write chain.live.mailbox) is.after mid c.commit.new.chain between c.commit.new.shelf before.stands pending next _ c.in-Ok.ensures.value group
    (λ f left. g.met.S.Shelf.counts_now c.commit.new.shelf (S.sees.moment between) f group.any_moment.later left))
    (c.in_ok-write_files.ensures.written tells).seen

pub returns-in_err-make_way-clause-turned : goal.returns-in_err-make_way-clause-turned
returns-in_err-make_way-clause-turned g c = λ tells.
    turned_stopped c.args.owed.now c.make_way.new.owed c.args.steps.turn c.args.chain.now c.make_way.new.chain (g.S.Shelf.sees.files c.make_way.new.shelf) c.requires.steps.due c.in_err-make_way.ensures.value.failed

pub returns-in_err-write_files-clause-turned : goal.returns-in_err-write_files-clause-turned
returns-in_err-write_files-clause-turned g c = λ tells.
    let S = g.S.Shelf in
    let mid = c.make_way.new.chain in
    turned_here c.args.owed.now c.args.steps.turn c.args.chain.now mid c.requires.steps.due c.in_ok-make_way.ensures.value.ok.0 (S.sees.files c.make_way.new.shelf) (S.sees.files c.write_files.new.shelf)
    (c.in_err-write_files.ensures.others tells name.Log (log_unnamed mid.live.mailbox c.args.steps.files)) mid (c.in_ok-make_way.ensures.files tells).turned

pub returns-clause-turned : goal.returns-clause-turned
returns-clause-turned g c = λ tells.
    let S = g.S.Shelf in
    let mid = c.make_way.new.chain in
    turned_behind c.args.owed.now c.args.steps.turn c.args.chain.now mid c.requires.steps.due c.in_ok-make_way.ensures.value.ok.0 (S.sees.files c.make_way.new.shelf) (S.sees.files c.write_files.new.shelf)
    (c.in_ok-write_files.ensures.others tells name.Log (log_unnamed mid.live.mailbox c.args.steps.files)) c.commit.new.chain (S.sees.files c.commit.new.shelf) (c.in_ok-make_way.ensures.files tells).turned (c.in-Err.ensures.front tells)

pub returns-in-Ok-clause-turned : goal.returns-in-Ok-clause-turned
returns-in-Ok-clause-turned g c = λ tells.
    let S = g.S.Shelf in
    let mid = c.make_way.new.chain in
    turned_behind c.args.owed.now c.args.steps.turn c.args.chain.now mid c.requires.steps.due c.in_ok-make_way.ensures.value.ok.0 (S.sees.files c.make_way.new.shelf) (S.sees.files c.write_files.new.shelf)
    (c.in_ok-write_files.ensures.others tells name.Log (log_unnamed mid.live.mailbox c.args.steps.files)) c.commit.new.chain (S.sees.files c.commit.new.shelf) (c.in_ok-make_way.ensures.files tells).turned (c.in-Ok.ensures.front tells)

pub returns-in_err-write_files-clause-settled : goal.returns-in_err-write_files-clause-settled
returns-in_err-write_files-clause-settled g c = λ tells.
    let way = c.in_ok-make_way.ensures in
    let files = c.in_err-write_files.ensures in
    settled_then g.S.Shelf.sees c.args.shelf.now c.make_way.new.shelf c.write_files.new.shelf way.cause.later files.cause.later (way.settled tells) (files.settled tells)

pub returns-clause-settled : goal.returns-clause-settled
returns-clause-settled g c = λ tells.
    let S = g.S.Shelf in
    let way = c.in_ok-make_way.ensures in
    let files = c.in_ok-write_files.ensures in
    let group = c.in-Err.ensures in
    let mid = c.make_way.new.shelf in
    let between = c.write_files.new.shelf in
    let new = c.commit.new.shelf in
    settled_then S.sees c.args.shelf.now mid new way.cause.later (omega (arith, files.cause.later, group.cause.later)) (way.settled tells)
    (settled_then S.sees mid between new files.cause.later group.cause.later (files.settled tells) (group.settled tells))

pub returns-in-Ok-clause-settled : goal.returns-in-Ok-clause-settled
returns-in-Ok-clause-settled g c = λ tells.
    let S = g.S.Shelf in
    let way = c.in_ok-make_way.ensures in
    let files = c.in_ok-write_files.ensures in
    let group = c.in-Ok.ensures in
    let mid = c.make_way.new.shelf in
    let between = c.write_files.new.shelf in
    let new = c.commit.new.shelf in
    settled_then S.sees c.args.shelf.now mid new way.cause.later (omega (arith, files.cause.later, group.cause.later)) (way.settled tells)
    (settled_then S.sees mid between new files.cause.later group.cause.later (files.settled tells) (group.settled tells))
