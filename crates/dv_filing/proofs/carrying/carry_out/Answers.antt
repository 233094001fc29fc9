use Rattle.std.proofs.Common.{◌∙◌, ap, subst, sym, arith}
use Rattle.std.proofs.lemmas.Result.{err_from_is_err_and}
use Rattle.dv_shelf.specs.Folders.{Folder}
use Rattle.dv_chain.specs.declared.chain.Chain.{Chain}
use Rattle.dv_logfile.proofs.Settling.{settled_then}
use Rattle.dv_writing.specs.Commits.{IsReady}
use Rattle.dv_writing.proofs.Ready.{no_debt}
use Rattle.dv_filing.proofs.Carried.{carry_done, carry_failed, carry_halted, carry_stopped, pending_here, stands_between, storage_done, storage_failed, storage_halted, storage_stopped, through_here, unnamed_behind, unnamed_halted, unnamed_stopped, written_behind}
use Rattle.dv_filing.proofs.Grouped.{group_done, group_failed, group_since}
use Rattle.dv_filing.proofs.carrying.carry_out.Goals as goal

pub make_way-requires-clause-due : goal.make_way-requires-clause-due
make_way-requires-clause-due g c = c.requires.steps.due

pub write_files-requires : goal.write_files-requires
write_files-requires g c = c.requires.steps.room

pub commit-requires-clause-ready : goal.commit-requires-clause-ready
commit-requires-clause-ready g c = subst (λ (k : Chain). IsReady c.args.text.now c.args.steps.prepared k) (sym c.in_ok-make_way.ensures.value.ok.0) c.requires.steps.group

pub commit-requires-clause-debt : goal.commit-requires-clause-debt
commit-requires-clause-debt g c = ap (λ (k : Chain). k.log.debt) c.in_ok-make_way.ensures.value.ok.0 ∙ no_debt c.args.chain.now c.args.owed.now c.args.steps.turn

-- ---- it stopped on the way

pub returns-in_err-make_way-clause-value : goal.returns-in_err-make_way-clause-value
returns-in_err-make_way-clause-value g c =
    let p = err_from_is_err_and c.from_residual.result c.from_residual.ensures.1 in
    rw p.1 (carry_stopped c.args.owed.now c.args.text.now c.args.steps c.args.chain.now c.make_way.new.owed c.make_way.new.chain _ p.0 c.in_err-make_way.ensures.value)

pub returns-in_err-make_way-clause-gives : goal.returns-in_err-make_way-clause-gives
returns-in_err-make_way-clause-gives g c = λ tells messages next debt after fits stands is.
    let S = g.S.Shelf in
    let p = err_from_is_err_and c.from_residual.result c.from_residual.ensures.1 in
    rw p.1
    (storage_stopped S.sees messages next debt after c.args.owed.now c.args.text.now c.args.steps c.args.chain.now c.args.shelf.now is c.make_way.new.owed c.make_way.new.chain c.make_way.new.shelf _ p.0
    (c.in_err-make_way.ensures.quiet tells messages debt fits stands is.closes)
    (unnamed_stopped c.args.steps (S.sees.files c.args.shelf.now) (S.sees.files c.make_way.new.shelf) (c.in_err-make_way.ensures.files tells).others))

-- ---- the file couldn't be written

pub returns-in_err-write_files-clause-value : goal.returns-in_err-write_files-clause-value
returns-in_err-write_files-clause-value g c =
    let p = err_from_is_err_and c.from_residual-in_err-write_files.result c.from_residual-in_err-write_files.ensures.1 in
    rw p.1 (carry_halted c.args.owed.now c.args.text.now c.args.steps c.args.chain.now c.make_way.new.owed c.make_way.new.chain _ c.in_ok-make_way.ensures.value p.0)

pub returns-in_err-write_files-clause-gives : goal.returns-in_err-write_files-clause-gives
returns-in_err-write_files-clause-gives g c = λ tells messages next debt after fits stands is.
    let S = g.S.Shelf in
    let p = err_from_is_err_and c.from_residual-in_err-write_files.result c.from_residual-in_err-write_files.ensures.1 in
    rw p.1
    (storage_halted S.sees messages next debt after c.args.owed.now c.args.text.now c.args.steps c.args.chain.now c.args.shelf.now is c.make_way.new.owed c.make_way.new.chain c.make_way.new.shelf
    _ c.in_ok-make_way.ensures.value c.requires.steps.due fits (c.in_ok-make_way.ensures.quiet tells messages debt fits stands is.closes)
    c.write_files.new.shelf _ (c.in_err-write_files.ensures.writes tells) p.0
    (unnamed_halted c.args.steps (S.sees.files c.args.shelf.now) (S.sees.files c.make_way.new.shelf) (c.in_ok-make_way.ensures.files tells).others
    (S.sees.files c.write_files.new.shelf) (c.in_err-write_files.ensures.writes tells).others))

-- ---- the group

pub returns-clause-value : goal.returns-clause-value
returns-clause-value g c =
    carry_failed c.args.owed.now c.args.text.now c.args.steps c.args.chain.now c.make_way.new.owed c.make_way.new.chain _ c.in_ok-make_way.ensures.value c.commit.new.chain _ _ c.in-Err.ensures.value

pub returns-in-Ok-clause-value : goal.returns-in-Ok-clause-value
returns-in-Ok-clause-value g c =
    carry_done c.args.owed.now c.args.text.now c.args.steps c.args.chain.now c.make_way.new.owed c.make_way.new.chain _ c.in_ok-make_way.ensures.value c.commit.new.chain _ c.in-Ok.ensures.value

pub returns-clause-gives : goal.returns-clause-gives
returns-clause-gives g c = λ tells messages next debt after fits stands is.
    let S = g.S.Shelf in
    let owed = c.args.owed.now in
    let text = c.args.text.now in
    let steps = c.args.steps in
    let chain = c.args.chain.now in
    let old = c.args.shelf.now in
    let left = c.make_way.new.owed in
    let mid = c.make_way.new.chain in
    let way = c.make_way.new.shelf in
    let between = c.write_files.new.shelf in
    let new = c.commit.new.shelf in
    let value = c.in_ok-make_way.ensures.value in
    let due = c.requires.steps.due in
    let quiet = c.in_ok-make_way.ensures.quiet tells messages debt fits stands is.closes in
    let writes = c.in_ok-write_files.ensures.writes tells in
    let standing = stands_between S.sees messages next debt after owed text steps chain old is left mid way _ value due fits quiet between _ writes in
    let through = through_here S.sees messages next debt after owed text steps chain old is left mid way _ value due fits quiet in
    let pending = pending_here S.sees messages next debt after owed text steps chain old is left mid way _ value due fits quiet in
    let group = c.in-Err.ensures.opens tells after pending standing.rests in
    let now = λ (f : Folder) (l : S.sees.may_leave new f). g.met.S.Shelf.counts_now new (S.sees.moment between) f group.any_moment.later l in
    let keeps = λ (f : Folder) (l : S.sees.may_leave between f).
    let from = writes.written f l in
    through.goes (S.sees.files way) from.0 f from.2 (quiet.ok.keeps (S.sees.files way) (g.met.S.Shelf.leaves_files way tells)) (quiet.ok.keeps from.0 from.1) in
    storage_failed S.sees messages next debt after owed text steps chain old is left mid way _ value due fits quiet between _ writes c.commit.new.chain new
    (group_since S.sees text messages next after mid c.commit.new.chain between new standing pending keeps through.same _ c.in-Err.ensures.value group now) _
    (group_failed S.sees text messages next after mid c.commit.new.chain between new standing pending keeps through.same _ c.in-Err.ensures.value group now)
    (unnamed_behind steps (S.sees.files old) (S.sees.files way) (c.in_ok-make_way.ensures.files tells).others (S.sees.files between) writes.others (S.sees.files new) group.others)

pub returns-in-Ok-clause-gives : goal.returns-in-Ok-clause-gives
returns-in-Ok-clause-gives g c = λ tells messages next debt after fits stands is.
    let S = g.S.Shelf in
    let owed = c.args.owed.now in
    let text = c.args.text.now in
    let steps = c.args.steps in
    let chain = c.args.chain.now in
    let old = c.args.shelf.now in
    let left = c.make_way.new.owed in
    let mid = c.make_way.new.chain in
    let way = c.make_way.new.shelf in
    let between = c.write_files.new.shelf in
    let new = c.commit.new.shelf in
    let value = c.in_ok-make_way.ensures.value in
    let due = c.requires.steps.due in
    let quiet = c.in_ok-make_way.ensures.quiet tells messages debt fits stands is.closes in
    let writes = c.in_ok-write_files.ensures.writes tells in
    let standing = stands_between S.sees messages next debt after owed text steps chain old is left mid way _ value due fits quiet between _ writes in
    let through = through_here S.sees messages next debt after owed text steps chain old is left mid way _ value due fits quiet in
    let pending = pending_here S.sees messages next debt after owed text steps chain old is left mid way _ value due fits quiet in
    let group = c.in-Ok.ensures.opens tells after pending standing.rests in
    let now = λ (f : Folder) (l : S.sees.may_leave new f). g.met.S.Shelf.counts_now new (S.sees.moment between) f group.any_moment.later l in
    let keeps = λ (f : Folder) (l : S.sees.may_leave between f).
    let from = writes.written f l in
    through.goes (S.sees.files way) from.0 f from.2 (quiet.ok.keeps (S.sees.files way) (g.met.S.Shelf.leaves_files way tells)) (quiet.ok.keeps from.0 from.1) in
    storage_done S.sees messages next debt after owed text steps chain old is left mid way _ value due fits quiet between _ writes c.commit.new.chain new
    (group_since S.sees text messages next after mid c.commit.new.chain between new standing pending keeps through.same _ c.in-Ok.ensures.value group now) _
    (group_done S.sees text messages next after mid c.commit.new.chain between new standing pending keeps through.same _ c.in-Ok.ensures.value group now)
    (let last = writes.written (S.sees.files between) (g.met.S.Shelf.leaves_files between tells) in written_behind steps (S.sees.files old) (S.sees.files way) (c.in_ok-make_way.ensures.files tells).others last.0 (S.sees.files between) (S.sees.files new) last.2 group.others)
    (unnamed_behind steps (S.sees.files old) (S.sees.files way) (c.in_ok-make_way.ensures.files tells).others (S.sees.files between) writes.others (S.sees.files new) group.others)

pub returns-in_err-write_files-clause-settled : goal.returns-in_err-write_files-clause-settled
returns-in_err-write_files-clause-settled g c = λ tells.
    let way = c.in_ok-make_way.ensures in
    let files = c.in_err-write_files.ensures in
    settled_then g.S.Shelf.sees c.args.shelf.now c.make_way.new.shelf c.write_files.new.shelf way.cause.later files.cause.later (way.settled tells) (files.settled tells)

pub returns-clause-settled : goal.returns-clause-settled
returns-clause-settled g c = λ tells.
    let S = g.S.Shelf in
    let way = c.in_ok-make_way.ensures in
    let files = c.in_ok-write_files.ensures in
    let group = c.in-Err.ensures in
    let mid = c.make_way.new.shelf in
    let between = c.write_files.new.shelf in
    let new = c.commit.new.shelf in
    settled_then S.sees c.args.shelf.now mid new way.cause.later (omega (arith, files.cause.later, group.cause.later)) (way.settled tells)
    (settled_then S.sees mid between new files.cause.later group.cause.later (files.settled tells) (group.settled tells))

pub returns-in-Ok-clause-settled : goal.returns-in-Ok-clause-settled
returns-in-Ok-clause-settled g c = λ tells.
    let S = g.S.Shelf in
    let way = c.in_ok-make_way.ensures in
    let files = c.in_ok-write_files.ensures in
    let group = c.in-Ok.ensures in
    let mid = c.make_way.new.shelf in
    let between = c.write_files.new.shelf in
    let new = c.commit.new.shelf in
    settled_then S.sees c.args.shelf.now mid new way.cause.later (omega (arith, files.cause.later, group.cause.later)) (way.settled tells)
    (settled_then S.sees mid between new files.cause.later group.cause.later (files.settled tells) (group.settled tells))
