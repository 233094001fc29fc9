use Rattle.std.proofs.Common.{◌≡◌, ◌∙◌, map, sym, ap, true}
use Rattle.std.proofs.lemmas.Result.{IfOk-weaker}
use Rattle.dv_model.specs.declared.types.Command.{Command}
use Rattle.dv_model.specs.declared.types.Shown.{Shown}
use Rattle.dv_model.specs.Searches.{needs_mail}
use Rattle.dv_model.specs.Sessions.{uids_looked_at}
use Rattle.dv_responses.proofs.Searched.{all_looked_at}
use Rattle.dv_responses.proofs.looking.uids_looked_at.Goals as goal

pub returns-else-not-needs_mail : goal.returns-else-not-needs_mail
returns-else-not-needs_mail c =
    let view = c.args.view.now in
    let needed : needs_mail c.in-Search.key ≡ true = sym c.needs_mail.ensures ∙ c.if-not-needs_mail.false in
    IfOk-weaker c.all_uids.result _ _
    (λ uids is. is ∙ ap (map (λ (s : Shown). s.uid)) (c.as_slice-in-Search.ensures ∙ c.rows.ensures.is) ∙ sym (all_looked_at c.in-Search.by_uid c.in-Search.key view needed) ∙ ap (λ (cmd : Command). uids_looked_at cmd view) (sym c.in-Search.is))
    c.all_uids.ensures
