use Rattle.std.proofs.Common.{ap, sym, ◌∙◌, subst}
use Rattle.dv_model.specs.declared.types.Body.TheVariants.{Append, HeaderUpdate}
use Rattle.dv_model.specs.declared.types.Mailbox.{Mailbox}
use Rattle.dv_apply.proofs.Testing.{LeavesNext, append_told, header_next, plain_next}
use Rattle.dv_apply.proofs.refusals.next_behind.Goals as goal

pub returns-in-Append-clause-ok : goal.returns-in-Append-clause-ok
returns-in-Append-clause-ok c =
    append_told c.test_rows.result c.as_slice.result.now c.args.body.now c.args.next_uid (c.in-Append.is ∙ ap Append (sym c.as_slice.ensures)) c.test_rows.ensures.ok c.test_rows.ensures.next

pub returns-in-HeaderUpdate-clause-ok : goal.returns-in-HeaderUpdate-clause-ok
returns-in-HeaderUpdate-clause-ok c = λ m e.
    let parts = c.as_slice-in-HeaderUpdate.result.now in
    subst (LeavesNext m c.numbers_after.result.1) (sym (c.in-HeaderUpdate.is ∙ ap HeaderUpdate (sym c.as_slice-in-HeaderUpdate.ensures)))
    (header_next m parts c.numbers_after.result.1 c.args.next_uid e (λ k v u. ap (λ (x : Mailbox). x.next_uid) (c.numbers_after.ensures.is k v u)))

pub returns-in_default-clause-ok : goal.returns-in_default-clause-ok
returns-in_default-clause-ok c = λ m e. plain_next m c.args.next_uid c.args.body.now e c.in_default.not-Append c.in_default.not-HeaderUpdate
