use Rattle.std.proofs.Common.{Option, subst}
use Rattle.std.proofs.lemmas.Result.{err_from_is_err_and}
use Rattle.dv_files.specs.declared.texts.Turn.{Turn}
use Rattle.dv_files.specs.Texts.{ClosesLog}
use Rattle.std.specs.Prelude.{IfSome}
use Rattle.dv_writing.specs.Ways.{IsDue}
use Rattle.dv_writing.proofs.Making.{failed_in, paid_in, quiet_failed, quiet_paid, quiet_turned, turned_in, way_failed, way_paid, way_turned}
use Rattle.dv_writing.proofs.Ready.{due_room, due_turn, repaired_is}
use Rattle.dv_logfile.proofs.Settling.{settled_then}
use Rattle.dv_writing.proofs.Settling.{turned_settled}
use Rattle.dv_writing.proofs.way.make_way.Goals as goal

pub returns-in_err-repair-clause-value : goal.returns-in_err-repair-clause-value
returns-in_err-repair-clause-value g c =
    let p = err_from_is_err_and c.from_residual.result c.from_residual.ensures.1 in
    rw p.1 (way_failed c.args.owed.now c.repair.new.turn c.args.chain.now c.repair.new.chain _ p.0 c.args.turn c.in_err-repair.ensures.value)

pub returns-in_err-repair-clause-quiet : goal.returns-in_err-repair-clause-quiet
returns-in_err-repair-clause-quiet g c = λ tells log debt fits stands closes.
    let S = g.S.Shelf in
    let p = err_from_is_err_and c.from_residual.result c.from_residual.ensures.1 in
    rw p.1
    (quiet_failed S.sees log debt c.args.chain.now c.repair.new.chain c.args.shelf.now c.repair.new.shelf _ p.0 c.args.owed.now c.repair.new.turn c.args.turn c.in_err-repair.ensures.value.failed fits
    (c.in_err-repair.ensures.quiet tells log debt fits stands))

pub returns-in_err-repair-clause-files : goal.returns-in_err-repair-clause-files
returns-in_err-repair-clause-files g c = λ tells.
    let S = g.S.Shelf in
    let p = err_from_is_err_and c.from_residual.result c.from_residual.ensures.1 in
    rw p.1 (failed_in _ p.0 c.args.owed.now c.args.turn c.args.chain.now.log (S.sees.files c.args.shelf.now) (S.sees.files c.repair.new.shelf) (c.in_err-repair.ensures.files tells))

pub turn_over-requires-clause-room : goal.turn_over-requires-clause-room
turn_over-requires-clause-room g c =
    let due = subst (λ (o : Option Turn). IsDue c.args.owed.now c.args.chain.now o) c.in-Some.is c.requires.due in
    due_room _ c.args.owed.now c.repair.new.turn c.in-Some.made c.args.chain.now c.repair.new.chain c.requires.owing c.in_ok-repair.ensures.value due

pub turn_over-requires-clause-turn : goal.turn_over-requires-clause-turn
turn_over-requires-clause-turn g c =
    let due = subst (λ (o : Option Turn). IsDue c.args.owed.now c.args.chain.now o) c.in-Some.is c.requires.due in
    due_turn _ c.args.owed.now c.repair.new.turn c.in-Some.made c.args.chain.now c.repair.new.chain c.requires.owing c.in_ok-repair.ensures.value due

pub returns-in-Some-clause-value : goal.returns-in-Some-clause-value
returns-in-Some-clause-value g c =
    rw c.in-Some.is
    (way_turned c.args.owed.now c.repair.new.turn c.args.chain.now c.repair.new.chain _ c.in-Some.made c.turn_over.new.owed c.turn_over.new.chain c.turn_over.result c.requires.owing c.in_ok-repair.ensures.value c.turn_over.ensures.value)

pub returns-in-Some-clause-quiet : goal.returns-in-Some-clause-quiet
returns-in-Some-clause-quiet g c = λ tells log debt fits stands closes.
    let S = g.S.Shelf in
    let old = c.args.shelf.now in
    let mid = c.repair.new.shelf in
    let chain = c.args.chain.now in
    let made = c.in-Some.made in
    let due = subst (λ (o : Option Turn). IsDue c.args.owed.now chain o) c.in-Some.is c.requires.due in
    let paid = repaired_is _ c.args.owed.now c.repair.new.turn chain c.repair.new.chain c.requires.owing c.in_ok-repair.ensures.value in
    let quiet = c.in_ok-repair.ensures.quiet tells log debt fits stands in
    let closes_old = subst (λ (o : Option Turn). IfSome o (λ t. ClosesLog chain t (S.sees.files old))) c.in-Some.is closes in
    let closes_mid = (c.in_ok-repair.ensures.turns tells due.2 made).closes closes_old in
    rw c.in-Some.is
    (quiet_turned S.sees log debt chain c.repair.new.chain old mid _ c.args.owed.now made c.turn_over.new.owed c.turn_over.new.chain c.turn_over.new.shelf c.turn_over.result due.2 paid c.turn_over.ensures.value quiet
    (c.turn_over.ensures.quiet tells log quiet.ok closes_mid))

pub returns-in-Some-clause-files : goal.returns-in-Some-clause-files
returns-in-Some-clause-files g c = λ tells.
    let S = g.S.Shelf in
    rw c.in-Some.is
    (turned_in c.args.owed.now c.args.chain.now.log _ c.in-Some.made c.turn_over.new.owed c.turn_over.result (S.sees.files c.args.shelf.now) (S.sees.files c.repair.new.shelf) (S.sees.files c.turn_over.new.shelf)
    (c.in_ok-repair.ensures.files tells) (c.turn_over.ensures.leaves tells).seen)

pub returns-in-None-clause-value : goal.returns-in-None-clause-value
returns-in-None-clause-value g c =
    rw c.in-None.is
    (way_paid c.args.owed.now c.repair.new.turn c.args.chain.now c.repair.new.chain _ tt c.requires.owing c.in_ok-repair.ensures.value)

pub returns-in-None-clause-quiet : goal.returns-in-None-clause-quiet
returns-in-None-clause-quiet g c = λ tells log debt fits stands closes.
    let S = g.S.Shelf in
    rw c.in-None.is
    (quiet_paid S.sees log debt c.args.chain.now c.repair.new.chain c.args.shelf.now c.repair.new.shelf _ tt c.args.owed.now c.repair.new.turn (c.in_ok-repair.ensures.quiet tells log debt fits stands))

pub returns-in-None-clause-files : goal.returns-in-None-clause-files
returns-in-None-clause-files g c = λ tells.
    let S = g.S.Shelf in
    rw c.in-None.is (paid_in _ tt c.args.owed.now c.args.chain.now.log (S.sees.files c.args.shelf.now) (S.sees.files c.repair.new.shelf) (c.in_ok-repair.ensures.files tells))

pub returns-in-Some-clause-settled : goal.returns-in-Some-clause-settled
returns-in-Some-clause-settled g c = λ tells.
    let S = g.S.Shelf in
    let mid = c.repair.new.shelf in
    let new = c.turn_over.new.shelf in
    settled_then S.sees c.args.shelf.now mid new c.in_ok-repair.ensures.cause.later c.turn_over.ensures.cause.later (c.in_ok-repair.ensures.settled tells)
    (turned_settled S.sees mid new c.in-Some.made c.turn_over.new.owed c.turn_over.result c.turn_over.ensures.cause (c.turn_over.ensures.leaves tells))
