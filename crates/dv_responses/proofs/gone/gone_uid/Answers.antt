use Rattle.std.proofs.Common.{◌≡◌, ◌∙◌, ℕ, List, map, not, sym, ap, true}
use Rattle.std.specs.Prelude.{filter, min}
use Rattle.std.specs.List.{reduce}
use Rattle.dv_model.specs.declared.types.Command.{Command}
use Rattle.dv_model.specs.declared.types.Shown.{Shown}
use Rattle.dv_model.specs.Searches.{needs_mail}
use Rattle.dv_model.specs.Sessions.{gone_uid, has_uid}
use Rattle.dv_responses.proofs.Searched.{all_looked_at}
use Rattle.dv_responses.proofs.gone.gone_uid.Goals as goal

pub returns-else-not-needs_mail : goal.returns-else-not-needs_mail
returns-else-not-needs_mail c =
    let view = c.args.view.now in
    let m = c.args.live.now.mailbox in
    let smallest = λ (us : List ℕ). reduce min (filter (λ uid. not (has_uid m uid)) us) in
    let needed : needs_mail c.in-Search.key ≡ true = sym c.needs_mail.ensures ∙ c.if-not-needs_mail.false in
    c.first_gone.ensures
    ∙ ap (λ (rows : List Shown). smallest (map (λ (s : Shown). s.uid) rows)) (c.as_slice-in-Search.ensures ∙ c.rows.ensures.is)
    ∙ ap smallest (sym (all_looked_at c.in-Search.by_uid c.in-Search.key view needed))
    ∙ ap (λ (cmd : Command). gone_uid cmd view m) (sym c.in-Search.is)
