use Rattle.std.proofs.Common.{◌≡◌, ◌∙◌, Option, Some, ap, subst}
use Rattle.std.specs.Prelude.{IsSomeAnd}
use Rattle.dv_model.specs.declared.types.Mailbox.{Mailbox}
use Rattle.dv_model.specs.Effects.{applied}
use Rattle.dv_apply.specs.Preparing.{Makes}
use Rattle.dv_member.proofs.Batching.{touched_leads}
use Rattle.dv_member.proofs.batch.make_ready.Goals as goal

pub returns-clause-leads : goal.returns-clause-leads
returns-clause-leads c = λ after is.
    let live = c.args.m.now.live.mailbox in
    let here : applied live c.deref.result.now ≡ Some after = ap (applied live) c.deref.ensures.value ∙ is in
    let makes : Makes c.prepare.new.self c.in-Ok.prepared after = subst (λ (o : Option Mailbox). IsSomeAnd o (Makes c.prepare.new.self c.in-Ok.prepared)) here c.in-Ok.ensures.ok in
    record {
      makes = makes;
      abreast = λ valid later abreast.
          c.in_ok-touched.ensures c.prepare.new.self.mailbox after abreast
          (touched_leads c.prepare.new.self.mailbox after c.args.batch.records.items c.touched.result.now valid later (ap (λ (m : Mailbox). applied m c.args.batch.records.items) c.prepare.ensures.mailbox ∙ is)
          (c.touched.ensures c.prepare.new.self after makes));
    }
