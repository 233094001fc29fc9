use Rattle.std.proofs.lemmas.Result.{err_from_is_err_and}
use Rattle.dv_front.proofs.Prefixes.{prefix_self}
use Rattle.dv_serving.specs.Lines.{fault_lines}
use Rattle.dv_member.specs.Members.{notes_of}
use Rattle.dv_keeper.proofs.Telling.{before_self, hold_begins, joined_end, seen_end, taken_same}
use Rattle.dv_keeper.proofs.writing.tell_fault.Goals as goal

pub returns-clause-begins : goal.returns-clause-begins
returns-clause-begins g c = hold_begins c.catch_up.new.s c.end_hold.new.s c.end_hold.ensures.counted (notes_of c.args.s.now) c.catch_up.ensures.begins

pub returns-clause-ok : goal.returns-clause-ok
returns-clause-ok g c =
    let k = g.K.Keeping in
    let feed = c.args.shared.now.kept.feed in
    let caught = c.in_ok-catch_up.ensures.ok in (
      seen_end feed c.args.s.now c.catch_up.new.s c.end_hold.new.s c.end_hold.ensures.counted k.start k.count caught.all c.end_hold.ensures.session,
      joined_end feed c.args.s.now c.catch_up.new.s c.end_hold.new.s c.end_hold.ensures.counted caught,
    )

-- memory ran out

pub returns-in_err-take_line-clause-begins : goal.returns-in_err-take_line-clause-begins
returns-in_err-take_line-clause-begins g c = prefix_self (notes_of c.args.s.now)

pub returns-in_err-take_line-clause-err : goal.returns-in_err-take_line-clause-err
returns-in_err-take_line-clause-err g c =
    let p = err_from_is_err_and c.from_residual.result c.from_residual.ensures.1 in rw p.1 (before_self c.args.s.now)

pub returns-in_err-take_line-clause-replies : goal.returns-in_err-take_line-clause-replies
returns-in_err-take_line-clause-replies g c =
    let p = err_from_is_err_and c.from_residual.result c.from_residual.ensures.1 in
    rw p.1 (taken_same g.R.Replies.with g.met.R.Replies.none c.args.replies.now c.take_line.new.replies c.in_err-take_line.ensures.err)

pub returns-in_err-catch_up-clause-replies : goal.returns-in_err-catch_up-clause-replies
returns-in_err-catch_up-clause-replies g c =
    let p = err_from_is_err_and c.from_residual-in_err-catch_up.result c.from_residual-in_err-catch_up.ensures.1 in
    rw p.1 (record { told = fault_lines c.args.fault; is = c.in_ok-take_line.ensures.said.0 })
