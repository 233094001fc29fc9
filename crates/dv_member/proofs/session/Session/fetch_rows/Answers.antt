use Rattle.std.proofs.Common.{◌≡◌, ◌∙◌, ℕ, Result, Ok, Err, OnErr, ap, length, rules, sym}
use Rattle.dv_model.specs.Journals.{Damaged}
use Rattle.dv_model.proofs.Clients.{false_is_not_true}
use Rattle.dv_view.proofs.Followed.{after_few, rise_of_ordered}
use Rattle.dv_member.proofs.session.Session.fetch_rows.Goals as goal

on_err : {A E P : Type 0} (r : Result A E) → P → OnErr r P
on_err (Ok x) p = tt
on_err (Err e) p = p

pub overflow_cast-len : goal.overflow_cast-len
overflow_cast-len g c =
    let view = c.view-view.result.now in
    let few = after_few view.next_uid view.rows (rise_of_ordered view c.rows.ensures.ordered) c.rows.ensures.ordered.next_uid in
    let count : c.len.result ≡ length view.rows = c.len.ensures ∙ ap length c.rows.ensures.is in
    search (rules, few, count)

pub returns-in_err-add_fetch_lines-clause-replies : goal.returns-in_err-add_fetch_lines-clause-replies
returns-in_err-add_fetch_lines-clause-replies g c =
    on_err c.from_residual.result (c.in_err-add_fetch_lines.ensures.err (λ (uid : ℕ). Damaged) (λ is. false_is_not_true (sym c.requires.items ∙ is)))
