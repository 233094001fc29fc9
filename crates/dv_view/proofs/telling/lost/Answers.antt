use Rattle.std.proofs.Common.{◌∙◌, ap, sym}
use Rattle.dv_model.proofs.Clients.{above_of_rising}
use Rattle.dv_view.proofs.Losing.{held_said}
use Rattle.dv_view.proofs.Placing.{rises_of}
use Rattle.dv_view.proofs.telling.lost.Goals as goal

pub returns-in-Held-clause-ok : goal.returns-in-Held-clause-ok
returns-in-Held-clause-ok g c =
    let rows = c.args.rows.now in
    let fresh = c.args.fresh.now in
    rw c.in-Held.is (sym (g.met.R.Replies.none c.args.said.now) ∙ ap (g.R.Replies.with c.args.said.now) (sym (held_said rows fresh (above_of_rising rows c.requires.rising.uids) (rises_of fresh c.requires.given))))
