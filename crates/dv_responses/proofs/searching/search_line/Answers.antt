use Rattle.std.proofs.Common.{◌≡◌, ◌∙◌, ℕ, List, [], ◌∷◌, false, true, map, sym, ap}
use Rattle.dv_model.specs.declared.types.Reply.TheVariants as reply
use Rattle.dv_model.specs.declared.types.Shown.{Shown}
use Rattle.dv_model.specs.Sessions.{candidate, message_in, number_of}
use Rattle.dv_search.specs.Facts.{found_rows, is_found}
use Rattle.dv_responses.proofs.Searched.{supplied_known, told}
use Rattle.dv_responses.proofs.Standing.{chosen_stand}
use Rattle.dv_responses.specs.Rows.{rows_at}
use Rattle.dv_responses.proofs.searching.search_line.Goals as goal

pub returns-then-not-by_uid : goal.returns-then-not-by_uid
returns-then-not-by_uid c = λ mail supplied.
    let m = c.args.live.now.mailbox in
    let view = c.args.view.now in
    let key = c.args.key.now in
    let facts = c.args.facts.now in
    let numbers = c.in_ok-numbers.ensures (message_in mail m) (supplied_known mail c.args.by_uid key view m facts supplied) in
    let by_number : c.args.by_uid ≡ false = c.if-not-by_uid.true in
    ap (λ (ns : List ℕ). reply.Search ns ∷ []) numbers ∙ ap (λ b. reply.Search (map (number_of b) (found_rows (message_in mail m) key view m)) ∷ []) (sym by_number) ∙ told mail c.args.by_uid key view m facts

pub returns : goal.returns
returns c = λ mail supplied.
    let m = c.args.live.now.mailbox in
    let view = c.args.view.now in
    let key = c.args.key.now in
    let facts = c.args.facts.now in
    let numbers = c.in_ok-numbers.ensures (message_in mail m) (supplied_known mail c.args.by_uid key view m facts supplied) in
    let by_uids : c.args.by_uid ≡ true = c.if-not-by_uid.false in
    let found = found_rows (message_in mail m) key view m in
    let stand = chosen_stand view.rows (λ row. is_found key (candidate view m row.1) (message_in mail m row.1.uid)) in
    let uids = c.in_ok-uids.ensures ∙ ap (λ (rs : List Shown). map (λ (row : ℕ × Shown). row.1.uid) (rows_at rs c.as_slice-2.result.now)) (c.as_slice.ensures ∙ c.rows.ensures.is) ∙ ap (λ (ns : List ℕ). map (λ (row : ℕ × Shown). row.1.uid) (rows_at view.rows ns)) (c.as_slice-2.ensures ∙ numbers) ∙ ap (map (λ (row : ℕ × Shown). row.1.uid)) stand in
    ap (λ (ns : List ℕ). reply.Search ns ∷ []) uids ∙ ap (λ b. reply.Search (map (number_of b) found) ∷ []) (sym by_uids) ∙ told mail c.args.by_uid key view m facts
