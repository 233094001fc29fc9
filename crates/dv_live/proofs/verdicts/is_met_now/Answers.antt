use Rattle.std.proofs.Common.{◌≡◌, ap, subst, sym}
use Rattle.std.specs.Prelude.{IfOk}
use Rattle.dv_live.specs.Turning.{is_met_now}
use Rattle.dv_live.proofs.verdicts.is_met_now.Goals as goal

pub returns-in-Some : goal.returns-in-Some
returns-in-Some c = λ key ready steady_key. subst (λ o. IfOk c.is_met.result (λ met. met ≡ is_met_now key c.args.names.now o)) (sym c.in-Some.is) (c.is_met.ensures key ready steady_key)

pub returns-in-None : goal.returns-in-None
returns-in-None c = λ key ready steady_key. sym (ap (is_met_now key c.args.names.now) c.in-None.is)
