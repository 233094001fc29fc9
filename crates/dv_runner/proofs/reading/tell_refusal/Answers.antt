use Rattle.std.proofs.Common.{◌∷◌, [], List, Ok, Err}
use Rattle.dv_model.specs.declared.types.Reply.{Reply}
use Rattle.dv_keeper.specs.Turns.{HasAnswered}
use Rattle.dv_runner.proofs.Served.{ok_always, refused_answered, takes_lines}
use Rattle.dv_runner.proofs.reading.tell_refusal.Goals as goal

pub returns-clause-turn : goal.returns-clause-turn
returns-clause-turn g c =
    let k = g.K.Keeping in
    let s = c.args.s.now in
    let lines : List Reply = c.args.line ∷ [] in
    takes_lines g.T.Replies.with c.args.replies.now c.take.new.self lines (λ said. HasAnswered k.start k.count c.args.c.now said s s) c.take.result c.take.ensures.ok
    (ok_always c.take.result (refused_answered k.start k.count c.args.c.now s c.args.line c.number.ensures.session c.requires.fresh c.requires.refused))
