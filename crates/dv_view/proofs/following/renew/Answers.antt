use Rattle.std.proofs.Common.{◌≡◌, ◌∙◌, ◌++◌, ap, drop, nat_eq, sym, get_or, take}
use Rattle.std.specs.Prelude.{position, slice_set, Some}
use Rattle.std.proofs.lemmas.Bool.{eqb-true}
use Rattle.std.proofs.lemmas.List.{set-append_left, take-append-drop}
use Rattle.std.proofs.lemmas.List.Quantifiers.{position-Some}
use Rattle.dv_model.specs.declared.types.Shown.{Shown}
use Rattle.dv_model.proofs.Clients.{above_of_rising}
use Rattle.dv_view.proofs.Finding.{any_by_place}
use Rattle.dv_view.proofs.Renewing.{set_is, set_none}
use Rattle.dv_view.proofs.following.renew.Goals as goal

pub returns-in-Some-clause-items : goal.returns-in-Some-clause-items
returns-in-Some-clause-items c =
    let rows = c.args.rows.now.items in
    let count = c.args.count in
    let s = c.args.s in
    let at = c.in-Some.at in
    let old : c.split_at.result.0.now ≡ take count rows = c.split_at.ensures.front ∙ ap (take count) c.deref.ensures.value in
    let is : position (λ (t : Shown). nat_eq t.uid s.uid) (take count rows) ≡ Some at = ap (position (λ (t : Shown). nat_eq t.uid s.uid)) (sym old) ∙ sym c.place_of.ensures.is ∙ c.in-Some.is in
    let place = position-Some (λ (t : Shown). nat_eq t.uid s.uid) (take count rows) at s is in
    ap (λ rs. slice_set rs at s) (sym (take-append-drop count rows))
    ∙ set-append_left (take count rows) (drop count rows) at s place.0
    ∙ ap (λ rs. rs ++ drop count rows) (set_is 0 (take count rows) at s s (above_of_rising (take count rows) c.requires.rising.uids) place.0 (eqb-true (get_or (take count rows) at s).uid s.uid place.1))

pub returns-in_default-clause-items : goal.returns-in_default-clause-items
returns-in_default-clause-items c =
    let rows = c.args.rows.now.items in
    let count = c.args.count in
    let s = c.args.s in
    let old : c.split_at.result.0.now ≡ take count rows = c.split_at.ensures.front ∙ ap (take count) c.deref.ensures.value in
    sym (take-append-drop count rows)
    ∙ ap (λ rs. rs ++ drop count rows) (set_none (take count rows) s (any_by_place (λ (t : Shown). nat_eq t.uid s.uid) (take count rows) _ (ap (position (λ (t : Shown). nat_eq t.uid s.uid)) (sym old) ∙ sym c.place_of.ensures.is ∙ c.in_default.is)))
