use Rattle.std.proofs.Common.{◌≡◌, ◌∙◌, ap, subst}
use Rattle.dv_model.specs.Views.{View, moved}
use Rattle.dv_view.specs.Orders.{IsOrdered}
use Rattle.dv_view.proofs.Moving.{moved_is, ordered_after, rising_after, said_is}
use Rattle.dv_view.proofs.view.View.advance.Given as given
use Rattle.dv_view.proofs.view.View.advance.Goals as goal

rows_are : (g : given.Over) (c : goal.After-add_said-arg-2-1 g) → c.in_ok-rows.rows ≡ (moved c.args.step c.args.self.now c.args.live.now.mailbox).rows
rows_are g c =
    moved_is c.args.step c.args.live.now.mailbox c.args.self.now c.in_ok-rows.rows c.as_slice.result.now c.self.inside.next_uid
    c.in_ok-rows.ensures (c.as_slice.ensures ∙ ap (λ (v : View). v.rows) c.self.view_is) (ap (λ (v : View). v.next_uid) c.self.view_is)

pub add_said-requires-clause-new_rows : goal.add_said-requires-clause-new_rows
add_said-requires-clause-new_rows g c =
    let ordered = subst IsOrdered c.self.view_is c.self.invariant in
    rising_after c.args.step c.args.live.now.mailbox c.args.self.now c.as_slice-3.result.now (c.as_slice-3.ensures ∙ rows_are g c) ordered c.next_uid-next_uid.ensures.valid c.requires.later

pub invariant_of-self : goal.invariant_of-self
invariant_of-self g c =
    let ordered = subst IsOrdered c.self.view_is c.self.invariant in
    let rows = moved_is c.args.step c.args.live.now.mailbox c.args.self.now c.in_ok-rows.rows c.as_slice.result.now c.self.inside.next_uid
    c.in_ok-rows.ensures (c.as_slice.ensures ∙ ap (λ (v : View). v.rows) c.self.view_is) (ap (λ (v : View). v.next_uid) c.self.view_is) in
    ordered_after c.args.step c.args.live.now.mailbox c.args.self.now c.in_ok-rows.rows c.next_uid-next_uid.result rows c.next_uid-next_uid.ensures.is ordered c.next_uid-next_uid.ensures.valid c.requires.later

pub returns-clause-said : goal.returns-clause-said
returns-clause-said g c =
    let rows = moved_is c.args.step c.args.live.now.mailbox c.args.self.now c.in_ok-rows.rows c.as_slice.result.now c.self.inside.next_uid
    c.in_ok-rows.ensures (c.as_slice.ensures ∙ ap (λ (v : View). v.rows) c.self.view_is) (ap (λ (v : View). v.next_uid) c.self.view_is) in
    c.in_ok-add_said.ensures.ok
    ∙ ap (g.R.Replies.with c.args.replies.now) (said_is c.args.live.now.mailbox c.args.self.now (moved c.args.step c.args.self.now c.args.live.now.mailbox) c.names.result.now.names c.as_slice-2.result.now c.as_slice-3.result.now
    c.names.ensures (c.as_slice-2.ensures ∙ ap (λ (v : View). v.rows) c.self.view_is) (c.as_slice-3.ensures ∙ rows))
