use Rattle.std.proofs.Common.{Option, subst}
use Rattle.std.proofs.lemmas.Result.{err_from_is_err_and}
use Rattle.dv_files.specs.declared.texts.Turn.{Turn}
use Rattle.dv_files.specs.Texts.{ClosesLog}
use Rattle.std.specs.Prelude.{IfSome}
use Rattle.dv_writing.specs.Ways.{IsDue}
use Rattle.dv_writing.proofs.Making.{failed_in, paid_in, turned_in, way_failed, way_paid, way_turned}
use Rattle.dv_filing.proofs.Making.{advanced_live, quiet_failed, quiet_paid, quiet_turned}
use Rattle.dv_writing.proofs.Ready.{due_room, due_turn, repaired_is}
use Rattle.dv_logfile.proofs.Settling.{settled_then}
use Rattle.dv_writing.proofs.Settling.{turned_settled}
use Rattle.dv_filing.proofs.way.make_way.Goals as goal

pub returns-in_err-pay-clause-value : goal.returns-in_err-pay-clause-value
returns-in_err-pay-clause-value g c =
    let p = err_from_is_err_and c.from_residual.result c.from_residual.ensures.1 in
    rw p.1 (way_failed c.args.owed.now c.pay.new.turn c.args.chain.now c.pay.new.chain _ p.0 c.args.turn c.in_err-pay.ensures.value)

pub returns-in_err-pay-clause-quiet : goal.returns-in_err-pay-clause-quiet
returns-in_err-pay-clause-quiet g c = λ tells messages debt fits stands closes.
    let S = g.S.Shelf in
    let p = err_from_is_err_and c.from_residual.result c.from_residual.ensures.1 in
    rw p.1
    (quiet_failed S.sees messages debt c.args.chain.now c.pay.new.chain c.args.shelf.now c.pay.new.shelf _ p.0 c.args.owed.now c.pay.new.turn c.args.turn c.in_err-pay.ensures.value.failed fits
    (c.in_err-pay.ensures.quiet tells messages debt fits stands))

pub returns-in_err-pay-clause-files : goal.returns-in_err-pay-clause-files
returns-in_err-pay-clause-files g c = λ tells.
    let S = g.S.Shelf in
    let p = err_from_is_err_and c.from_residual.result c.from_residual.ensures.1 in
    rw p.1 (failed_in _ p.0 c.args.owed.now c.args.turn c.args.chain.now.log (S.sees.files c.args.shelf.now) (S.sees.files c.pay.new.shelf) (c.in_err-pay.ensures.files tells))

pub turn_over-requires-clause-room : goal.turn_over-requires-clause-room
turn_over-requires-clause-room g c =
    let due = subst (λ (o : Option Turn). IsDue c.args.owed.now c.args.chain.now o) c.in-Some.is c.requires.due in
    due_room _ c.args.owed.now c.pay.new.turn c.in-Some.made c.args.chain.now c.pay.new.chain c.requires.owing c.in_ok-pay.ensures.value due

pub turn_over-requires-clause-turn : goal.turn_over-requires-clause-turn
turn_over-requires-clause-turn g c =
    let due = subst (λ (o : Option Turn). IsDue c.args.owed.now c.args.chain.now o) c.in-Some.is c.requires.due in
    due_turn _ c.args.owed.now c.pay.new.turn c.in-Some.made c.args.chain.now c.pay.new.chain c.requires.owing c.in_ok-pay.ensures.value due

pub returns-in-Some-clause-value : goal.returns-in-Some-clause-value
returns-in-Some-clause-value g c =
    rw c.in-Some.is
    (way_turned c.args.owed.now c.pay.new.turn c.args.chain.now c.pay.new.chain _ c.in-Some.made c.turn_over.new.owed c.turn_over.new.chain c.turn_over.result c.requires.owing c.in_ok-pay.ensures.value c.turn_over.ensures.value)

pub returns-in-Some-clause-quiet : goal.returns-in-Some-clause-quiet
returns-in-Some-clause-quiet g c = λ tells messages debt fits stands closes.
    let S = g.S.Shelf in
    let old = c.args.shelf.now in
    let mid = c.pay.new.shelf in
    let chain = c.args.chain.now in
    let made = c.in-Some.made in
    let due = subst (λ (o : Option Turn). IsDue c.args.owed.now chain o) c.in-Some.is c.requires.due in
    let paid = repaired_is _ c.args.owed.now c.pay.new.turn chain c.pay.new.chain c.requires.owing c.in_ok-pay.ensures.value in
    let quiet = c.in_ok-pay.ensures.quiet tells messages debt fits stands in
    let closes_old = subst (λ (o : Option Turn). IfSome o (λ t. ClosesLog chain t (S.sees.files old))) c.in-Some.is closes in
    let closes_mid = (c.in_ok-pay.ensures.turns tells due.2 made).closes closes_old in
    rw c.in-Some.is
    (quiet_turned S.sees messages debt chain c.pay.new.chain old mid _ c.args.owed.now made c.turn_over.new.owed c.turn_over.new.chain c.turn_over.new.shelf c.turn_over.result due.2 paid (advanced_live c.pay.new.chain c.turn_over.new.chain c.turn_over.result c.turn_over.ensures.value.chain) c.turn_over.ensures.value quiet
    (c.turn_over.ensures.quiet tells messages quiet.ok closes_mid))

pub returns-in-Some-clause-files : goal.returns-in-Some-clause-files
returns-in-Some-clause-files g c = λ tells.
    let S = g.S.Shelf in
    rw c.in-Some.is
    (turned_in c.args.owed.now c.args.chain.now.log _ c.in-Some.made c.turn_over.new.owed c.turn_over.result (S.sees.files c.args.shelf.now) (S.sees.files c.pay.new.shelf) (S.sees.files c.turn_over.new.shelf)
    (c.in_ok-pay.ensures.files tells) (c.turn_over.ensures.leaves tells).seen)

pub returns-in-None-clause-value : goal.returns-in-None-clause-value
returns-in-None-clause-value g c =
    rw c.in-None.is
    (way_paid c.args.owed.now c.pay.new.turn c.args.chain.now c.pay.new.chain _ tt c.requires.owing c.in_ok-pay.ensures.value)

pub returns-in-None-clause-quiet : goal.returns-in-None-clause-quiet
returns-in-None-clause-quiet g c = λ tells messages debt fits stands closes.
    let S = g.S.Shelf in
    rw c.in-None.is
    (quiet_paid S.sees messages debt c.args.chain.now c.pay.new.chain c.args.shelf.now c.pay.new.shelf _ tt c.args.owed.now c.pay.new.turn (c.in_ok-pay.ensures.quiet tells messages debt fits stands))

pub returns-in-None-clause-files : goal.returns-in-None-clause-files
returns-in-None-clause-files g c = λ tells.
    let S = g.S.Shelf in
    rw c.in-None.is (paid_in _ tt c.args.owed.now c.args.chain.now.log (S.sees.files c.args.shelf.now) (S.sees.files c.pay.new.shelf) (c.in_ok-pay.ensures.files tells))

pub returns-in-Some-clause-settled : goal.returns-in-Some-clause-settled
returns-in-Some-clause-settled g c = λ tells.
    let S = g.S.Shelf in
    let mid = c.pay.new.shelf in
    let new = c.turn_over.new.shelf in
    settled_then S.sees c.args.shelf.now mid new c.in_ok-pay.ensures.cause.later c.turn_over.ensures.cause.later (c.in_ok-pay.ensures.settled tells)
    (turned_settled S.sees mid new c.in-Some.made c.turn_over.new.owed c.turn_over.result c.turn_over.ensures.cause (c.turn_over.ensures.leaves tells))
