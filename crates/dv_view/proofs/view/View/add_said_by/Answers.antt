use Rattle.std.proofs.Common.{◌<◌, ◌^◌, ◌∙◌, ap, length, subst, sym}
use Rattle.std.proofs.lemmas.Result.{on_ok_weaker}
use Rattle.dv_model.specs.Views.{View, moved}
use Rattle.dv_view.specs.Following.{rows_after}
use Rattle.dv_view.specs.Orders.{IsOrdered}
use Rattle.dv_view.proofs.Followed.{after_few, after_rise, given_of, moved_is_after}
use Rattle.dv_view.proofs.Moving.{said_is}
use Rattle.dv_view.proofs.Placing.{rises_of}
use Rattle.dv_view.proofs.view.View.add_said_by.Goals as goal

pub add_said_by-requires-clause-count : goal.add_said_by-requires-clause-count
add_said_by-requires-clause-count g c =
    let view = c.args.self.now in
    let fresh = c.args.fresh.now in
    let ordered = subst IsOrdered c.self.view_is c.self.invariant in
    let rise = after_rise c.args.step view c.args.next_uid (length c.args.names.now.names) fresh ordered c.requires (rises_of fresh (given_of view c.args.next_uid (length c.args.names.now.names) fresh c.requires)) in
    let few = after_few c.args.next_uid (rows_after c.args.step view.rows fresh) rise c.ranges.next_uid.fits in
    let rows = c.as_slice.ensures ∙ ap (λ (v : View). v.rows) c.self.view_is in
    subst (λ rs. length rs < 2 ^ 32) (sym (ap (λ rs. rows_after c.args.step rs c.as_slice-2.result.now) rows ∙ ap (rows_after c.args.step view.rows) c.as_slice-2.ensures)) few

pub returns-clause-said : goal.returns-clause-said
returns-clause-said g c =
    let view = c.args.self.now in
    let fresh = c.args.fresh.now in
    let names = c.args.names.now.names in
    let step = c.args.step in
    let ordered = subst IsOrdered c.self.view_is c.self.invariant in
    let rises = rises_of fresh (given_of view c.args.next_uid (length names) fresh c.requires) in
    let rows = c.as_slice.ensures ∙ ap (λ (v : View). v.rows) c.self.view_is in
    on_ok_weaker c.add_said_by.result (λ are m is.
    are ∙ ap (g.R.Replies.with c.args.replies.now) (said_is m view (moved step view m) names c.as_slice.result.now (rows_after step c.as_slice.result.now c.as_slice-2.result.now)
    (sym is.names) rows
    (ap (λ rs. rows_after step rs c.as_slice-2.result.now) rows ∙ ap (rows_after step view.rows) c.as_slice-2.ensures
    ∙ sym (moved_is_after view c.args.next_uid names fresh m ordered c.requires.later rises c.requires.known is step)))) c.add_said_by.ensures.ok
