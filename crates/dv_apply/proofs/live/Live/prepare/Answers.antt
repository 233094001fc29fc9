use Rattle.std.proofs.Common.{sym, ◌∙◌, subst}
use Rattle.dv_apply.specs.Preparing.{IsRefused}
use Rattle.dv_apply.specs.States.{Held}
use Rattle.dv_apply.proofs.Testing.{err_same}
use Rattle.dv_apply.proofs.live.Live.prepare.Goals as goal

pub returns-clause-refused : goal.returns-clause-refused
returns-clause-refused c = λ x is.
    let never = sym c.in-Ok.is ∙ c.prepare.ensures.refused x (subst (λ (k : Held). IsRefused k.mailbox c.args.records.now x) (sym c.self.view_is) is) in
    absurd cc

pub returns-in-Err-clause-refused : goal.returns-in-Err-clause-refused
returns-in-Err-clause-refused c = λ x is.
    err_same _ c.prepare.result c.in-Err.e x c.in-Err.is (c.prepare.ensures.refused x (subst (λ (k : Held). IsRefused k.mailbox c.args.records.now x) (sym c.self.view_is) is))
