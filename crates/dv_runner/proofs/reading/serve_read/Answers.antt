use Rattle.std.proofs.Common.{refl}
use Rattle.dv_keeper.specs.Turns.{HasAnswered}
use Rattle.dv_keeper.proofs.Telling.{taken_same}
use Rattle.dv_member.specs.Calls.{turn_of}
use Rattle.dv_member.specs.Members.{log_seen}
use Rattle.dv_runner.proofs.Served.{err_always, read_told, takes_lines}
use Rattle.dv_runner.proofs.reading.serve_read.Goals as goal

pub returns-clause-turn : goal.returns-clause-turn
returns-clause-turn g c =
    let k = g.K.Keeping in
    let old = c.args.s.now in
    let mid = c.see_all.new.s in
    let new = c.answer.new.self in
    let lines = (turn_of (log_seen k.start mid) mid c.args.c.now).replies in
    takes_lines g.T.Replies.with c.args.replies.now c.answer.new.replies lines (λ said. HasAnswered k.start k.count c.args.c.now said old new) c.answer.result c.answer.ensures.lines
    (read_told k.start k.count c.args.c.now old mid new c.number.ensures.session c.number-2.ensures.session c.see_all.ensures.begins c.see_all.ensures.seeing c.answer.ensures.turn c.answer.result c.answer.ensures.ok)

pub returns-in_err-see_all-clause-replies : goal.returns-in_err-see_all-clause-replies
returns-in_err-see_all-clause-replies g c =
    err_always c.from_residual.result (taken_same g.T.Replies.with g.met.T.Replies.none c.args.replies.now c.args.replies.now refl)
