use Rattle.std.proofs.Common.{refl, subst, sym}
use Rattle.dv_model.specs.declared.types.Mailbox.{Mailbox}
use Rattle.dv_mdbox.specs.Tails.{KeepsEnd}
use Rattle.dv_mdbox.proofs.Marked.{paid_at}
use Rattle.dv_mdbox.proofs.Stepping.{none_taken}
use Rattle.dv_mdbox.proofs.Thinning.{outcome_failure, paid_then, quiet_settled, repaired_id, repaired_mails}
use Rattle.dv_mdbox.proofs.storage.Storage.settle.Goals as goal

pub invariant_of-self : goal.invariant_of-self
invariant_of-self g c =
    let value = c.pay-paid.ensures.value in
    let old = c.self.inside in (
      value.owing,
      paid_at old.mark old.owed c.pay-paid.new.turn old.chain c.pay-paid.new.chain c.pay-paid.result c.self.invariant.1 value,
      subst (λ (m : Mailbox). KeepsEnd m old.tail) (sym (λ i. (value.live i).mailbox)) c.self.invariant.2,
    )

pub returns-clause-value : goal.returns-clause-value
returns-clause-value g c = rw (← c.self.view_is) (λ known. none_taken known 0 _ _ (λ i. (c.pay-paid.ensures.value.live i).mailbox) refl refl refl (repaired_id _ _ _ c.pay-paid.result c.pay-paid.ensures.value.chain))

pub returns-clause-files : goal.returns-clause-files
returns-clause-files g c = rw (← c.self.view_is) (λ tells file. repaired_mails _ _ c.pay-paid.result _ _ (c.pay-paid.ensures.files tells) file)

pub returns-clause-gives : goal.returns-clause-gives
returns-clause-gives g c = rw (← c.self.view_is) (λ tells messages debt rest.
    let value = c.pay-paid.ensures.value in
    let done = paid_then _ _ _ _ c.pay-paid.result value.paid value.failed in
    quiet_settled g.S.Shelf.sees messages c.thinnings_are.ensures debt _ _ (λ i. (value.live i).mailbox) rest _ c.pay-paid.result c.outcome.result c.outcome.ensures done.0 done.1 (c.pay-paid.ensures.quiet tells messages debt rest.fits rest.stands))

pub returns-clause-err : goal.returns-clause-err
returns-clause-err g c = outcome_failure _ c.pay-paid.result c.outcome.result c.outcome.ensures
