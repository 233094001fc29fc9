use Rattle.dv_texts.proofs.Joined.{front_behind}
use Rattle.dv_watching.proofs.writing.write_both.Goals as goal

pub returns-clause-err : goal.returns-clause-err
returns-clause-err g c = λ tells.
    let old = g.O.Sink.sees.taken c.args.out.now in
    let mid = g.O.Sink.sees.taken c.write_to.new.out in
    let new = g.O.Sink.sees.taken c.write_all.new.self in
    front_behind old c.args.replies.now.text c.args.told.now mid new (c.in_ok-write_to.ensures.ok tells) (c.write_all.ensures.err tells)
