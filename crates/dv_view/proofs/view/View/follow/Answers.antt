use Rattle.std.proofs.Common.{◌≡◌, ◌∙◌, List, ap, subst, sym}
use Rattle.dv_model.specs.declared.types.Shown.{Shown}
use Rattle.dv_model.specs.Views.{View}
use Rattle.dv_view.specs.Following.{rows_after}
use Rattle.dv_view.specs.Orders.{IsOrdered}
use Rattle.dv_view.proofs.Followed.{after_rise, given_of, moved_whole}
use Rattle.dv_view.proofs.Moving.{Rise, ordered_of_rise}
use Rattle.dv_view.proofs.Placing.{rises_of}
use Rattle.dv_view.proofs.view.View.follow.Goals as goal

rows_are : (c : goal.After-self-1) → c.from_vec.result ≡ rows_after c.args.step c.args.self.now.rows c.args.fresh
rows_are c =
    c.from_vec.ensures ∙ c.in_ok-followed.ensures.ok
    ∙ ap (λ rs. rows_after c.args.step rs c.into_vec.result.items) (c.into_vec-rows.ensures ∙ c.replace.ensures.value ∙ ap (λ (v : View). v.rows) c.self.view_is)
    ∙ ap (rows_after c.args.step c.args.self.now.rows) c.into_vec.ensures

pub invariant_of-self-2 : goal.invariant_of-self-2
invariant_of-self-2 c =
    let view = c.args.self.now in
    let fresh = c.args.fresh in
    let ordered = subst IsOrdered c.self.view_is c.self.invariant in
    let rise = after_rise c.args.step view c.args.next_uid c.requires.0 fresh ordered c.requires.1 (rises_of fresh (given_of view c.args.next_uid c.requires.0 fresh c.requires.1)) in
    ordered_of_rise c.args.next_uid c.from_vec.result c.ranges.next_uid.fits (subst (Rise c.args.next_uid) (sym (rows_are c)) rise)

pub returns-clause-rows : goal.returns-clause-rows
returns-clause-rows c = ap (λ (rs : List Shown). record { rows = rs; next_uid = c.args.next_uid }) (rows_are c)

pub returns-clause-view : goal.returns-clause-view
returns-clause-view c =
    let view = c.args.self.now in
    let fresh = c.args.fresh in
    let ordered = subst IsOrdered c.self.view_is c.self.invariant in
    let rises = rises_of fresh (given_of view c.args.next_uid c.requires.0 fresh c.requires.1) in
    λ names m is.
    ap (λ (rs : List Shown). record { rows = rs; next_uid = c.args.next_uid }) (rows_are c)
    ∙ sym (moved_whole view c.args.next_uid names fresh m ordered c.requires.1.later rises c.requires.1.known is c.args.step)
