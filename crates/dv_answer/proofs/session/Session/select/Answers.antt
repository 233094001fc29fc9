use Rattle.std.proofs.Common.{[], subst, sym}
use Rattle.dv_model.specs.Views.{View}
use Rattle.dv_answer.specs.Following.{Tracks}
use Rattle.dv_answer.proofs.Keeping.{select_tracks}
use Rattle.dv_answer.proofs.session.Session.select.Goals as goal

pub returns-clause-abreast : goal.returns-clause-abreast
returns-clause-abreast g c =
    let m = c.args.live.now.mailbox in
    λ selected. subst (Tracks m c.in_ok-view.view) (sym c.clear.ensures) (subst (λ (v : View). Tracks m v []) (sym c.in_ok-view.ensures.made) (select_tracks m c.in_ok-view.ensures.valid))
