use Rattle.std.proofs.Common.{map}
use Rattle.std.proofs.lemmas.Result.{IfOk-weaker}
use Rattle.dv_model.specs.Sessions.{value_of}
use Rattle.dv_texts.proofs.Growing.{whole}
use Rattle.dv_texts.proofs.lines.put_fetch_line.Goals as goal

pub returns-clause-ok : goal.returns-clause-ok
returns-clause-ok c = λ message are.
    let values = map (value_of c.args.live.now.mailbox c.args.s.now message) c.args.items.now in
    IfOk-weaker c.end_fetch.result _ _ (λ done last. whole c.args.session.now c.args.number c.args.s.now.uid _ _ _ _ values c.in_ok-begin_fetch.ensures.ok (c.in_ok-put_items.ensures.ok message are) last) c.end_fetch.ensures.ok
