use Rattle.std.proofs.Common.{◌∙◌, ℕ, List, map, not, sym, ap}
use Rattle.std.specs.Prelude.{filter, min}
use Rattle.std.specs.List.{reduce}
use Rattle.dv_model.specs.declared.types.Shown.{Shown}
use Rattle.dv_model.specs.Sessions.{has_uid}
use Rattle.dv_responses.specs.Rows.{row_at}
use Rattle.dv_responses.proofs.Standing.{uids_of_numbers}
use Rattle.dv_responses.proofs.gone.first_gone_named.Goals as goal

pub returns : goal.returns
returns c =
    let m = c.args.live.now.mailbox in
    let view = c.args.view.now in
    let numbers = c.in_ok-numbers.numbers in
    let smallest = λ (us : List ℕ). reduce min (filter (λ uid. not (has_uid m uid)) us) in
    c.first_gone_at.ensures
    ∙ ap (λ (ns : List ℕ). smallest (map (λ number. (row_at c.as_slice-rows.result.now number).uid) ns)) c.as_slice.ensures
    ∙ ap (λ (rows : List Shown). smallest (map (λ number. (row_at rows number).uid) numbers)) (c.as_slice-rows.ensures ∙ c.rows.ensures.is)
    ∙ ap smallest (sym (uids_of_numbers view.rows numbers))
    ∙ ap (λ (rows : List (ℕ × Shown)). smallest (map (λ (row : ℕ × Shown). row.1.uid) rows)) c.in_ok-numbers.ensures.is
