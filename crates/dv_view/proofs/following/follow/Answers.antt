use Rattle.std.proofs.Common.{◌≡◌, ◌∙◌, ◌++◌, List, ap, filter, map, not, refl, subst, sym}
use Rattle.std.specs.Prelude.{nat_le, nat_lt}
use Rattle.dv_model.specs.declared.types.Shown.{Shown}
use Rattle.dv_model.specs.declared.types.Step.{Step}
use Rattle.dv_model.specs.declared.types.Step.TheVariants.{Held, Full}
use Rattle.dv_view.specs.Following.{given, has_left, renewed}
use Rattle.dv_view.specs.Orders.{AreRising}
use Rattle.dv_view.proofs.Followed.{followed, rise_of_ordered}
use Rattle.dv_view.proofs.Moving.{rising_of_ordered}
use Rattle.dv_view.proofs.Placing.{rises_of}
use Rattle.dv_view.proofs.Renewing.{filter_renewed, filter_rises}
use Rattle.dv_view.proofs.following.follow.Goals as goal

pub put_all-requires-clause-rising : goal.put_all-requires-clause-rising
put_all-requires-clause-rising c =
    let rows = c.args.rows.now.items in
    let fresh = c.args.fresh.items in
    let same : c.reserve.new.self.items ≡ rows = c.reserve.ensures.items in
    let rising : AreRising rows = rising_of_ordered (record { rows = rows; next_uid = c.args.next_uid }) c.requires.ordered in
    by_step c.args.step rows rising c.lose.new.rows.items (λ held. c.lose.ensures.held held ∙ same)
    (λ full. c.lose.ensures.full full ∙ ap (λ fs. filter (λ (s : Shown). not (has_left fs s.uid)) c.reserve.new.self.items) c.deref-2.ensures.value ∙ ap (filter (λ (s : Shown). not (has_left fresh s.uid))) same)
  where
    by_step : (step : Step) (rows : List Shown) → AreRising rows → (after : List Shown) → (step ≡ Held → after ≡ rows) → (step ≡ Full → after ≡ filter (λ (s : Shown). not (has_left c.args.fresh.items s.uid)) rows) → AreRising after
    by_step Held rows rising after held full = subst AreRising (sym (held refl)) rising
    by_step Full rows rising after held full = subst AreRising (sym (full refl)) (filter_rises (λ (s : Shown). not (has_left c.args.fresh.items s.uid)) rows rising)

pub returns-clause-ok : goal.returns-clause-ok
returns-clause-ok c =
    let rows = c.args.rows.now.items in
    let fresh = c.args.fresh.items in
    let b = c.args.next_uid in
    let low = filter (λ (s : Shown). nat_lt s.uid b) (given fresh) in
    let high = filter (λ (s : Shown). nat_le b s.uid) (given fresh) in
    followed c.args.step rows b fresh (rise_of_ordered (record { rows = rows; next_uid = b }) c.requires.ordered) (rises_of fresh c.requires.given) c.requires.known
    c.reserve.new.self.items c.put_all.new.rows.items low high
    c.reserve.ensures.items refl refl
    (λ held. c.put_all.ensures ∙ ap (λ rs. map (renewed low) rs ++ high) (c.lose.ensures.held held))
    (λ full. c.put_all.ensures ∙ ap (λ rs. map (renewed low) rs ++ high) (c.lose.ensures.full full ∙ ap (λ fs. filter (λ (s : Shown). not (has_left fs s.uid)) c.reserve.new.self.items) c.deref-2.ensures.value)
    ∙ ap (λ rs. rs ++ high) (sym (filter_renewed (λ u. not (has_left fresh u)) low c.reserve.new.self.items)))
