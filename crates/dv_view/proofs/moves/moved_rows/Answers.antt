use Rattle.std.proofs.Common.{◌∙◌, ◌++◌, ap, map}
use Rattle.dv_model.specs.Views.{shown}
use Rattle.dv_view.proofs.Moving.{from_zero}
use Rattle.dv_view.proofs.moves.moved_rows.Goals as goal

pub returns-in_ok-add_rows-in-Full : goal.returns-in_ok-add_rows-in-Full
returns-in_ok-add_rows-in-Full c =
    let rows = c.args.live.now.mailbox.rows in
    let made = c.from_vec-made.result in
    rw c.in-Full.is (c.in_ok-add_rows-in-Full.ensures ∙ ap (λ rs. made ++ map shown rs) (from_zero rows) ∙ ap (λ rs. rs ++ map shown rows) (c.from_vec-made.ensures ∙ c.in_ok-rows-in-Full.ensures.items))
