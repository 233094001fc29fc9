use Rattle.std.proofs.Common.{◌∙◌, ap, false}
use Rattle.dv_model.specs.declared.types.Mailbox.{Mailbox}
use Rattle.dv_apply.specs.States.{Kept}
use Rattle.dv_apply.proofs.Refusing.{refused_none}
use Rattle.dv_rebuild.specs.Walks.{salvaged_of}
use Rattle.dv_rebuild.proofs.Walks.{takes_refused}
use Rattle.dv_rebuild.proofs.salvage.Salvage.take.Goals as goal

pub returns-in-Err-BadAppend : goal.returns-in-Err-BadAppend
returns-in-Err-BadAppend c = λ place.
    let s = c.args.self.now in
    let told = rw c.in-Err-BadAppend.field-0-is at c.in-Err-BadAppend.ensures.bad in
    let none = refused_none s.live.mailbox c.args.r.now _ told in
    let same = ap (λ (k : Kept). k.mailbox) c.in-Err-BadAppend.ensures.err in
    ap (λ (m : Mailbox). record { mailbox = m; given = s.given; going = false }) same ∙ takes_refused (salvaged_of s) c.args.r.now c.if-not-self.false none place
