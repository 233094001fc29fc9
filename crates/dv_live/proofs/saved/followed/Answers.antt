use Rattle.std.proofs.Common.{◌∙◌, ap, subst, sym}
use Rattle.dv_view.proofs.Placing.{rises_of}
use Rattle.dv_live.specs.Turning.{RiseFrom, turned}
use Rattle.dv_live.proofs.Following.{fresh_rise}
use Rattle.dv_live.proofs.Turning.{uids_of}
use Rattle.dv_live.proofs.saved.followed.Goals as goal

pub turned-requires-clause-verdicts : goal.turned-requires-clause-verdicts
turned-requires-clause-verdicts c =
    subst (RiseFrom 0) (sym (ap uids_of c.deref.ensures.value ∙ c.in_ok-verdicts.ensures.uids)) (fresh_rise 0 c.args.fresh.now (rises_of c.args.fresh.now c.requires.given))

pub returns-clause-uids : goal.returns-clause-uids
returns-clause-uids c = λ key ready steady_key. c.in_ok-uids.ensures ∙ ap (turned c.args.uids.now) (c.deref.ensures.value ∙ c.in_ok-verdicts.ensures.verdicts key ready steady_key)
