use Rattle.std.proofs.Common.{◌≡◌, ◌<◌, ◌+◌, ◌^◌, ◌++◌, ◌∷◌, [], ◌∙◌, length, take, ap, sym, rules}
use Rattle.std.specs.Option.{option_copied}
use Rattle.std.proofs.lemmas.List.{take_all}
use Rattle.dv_model.specs.declared.types.Key.{Key}
use Rattle.dv_search.specs.Sought.{IsSought}
use Rattle.dv_sets.proofs.Chosen.{chosen, chosen_in, chosen_out}
use Rattle.dv_search.specs.Facts.{facts_of}
use Rattle.dv_search.proofs.Found.{few_rows, finds, step}
use Rattle.dv_search.proofs.search.numbers_found.Goals as goal
use Rattle.dv_search.proofs.search.numbers_found.Goals.{then-branch+in_ok-push, else-branch}

pub overflow_add-number : goal.overflow_add-number
overflow_add-number c =
    let few : length c.args.v.now.rows < 2 ^ 32 = few_rows c.args.v.now c.rows.ensures.ordered in
    let same : length c.as_slice-shown-items.result.now ≡ length c.args.v.now.rows = ap length (c.as_slice-shown-items.ensures ∙ c.rows.ensures.is) in
    let here : c.loop-shown.number ≡ c.loop-shown.shown-index = c.loop-shown.invariant.counted in
    search rules

pub loop-shown-preserved : goal.loop-shown-preserved
loop-shown-preserved c =
    let view = c.args.v.now in
    let m = c.args.live.now.mailbox in
    let mail = c.args.mail.now in
    let rows = c.as_slice-shown-items.result.now in
    let i = c.loop-shown.shown-index in
    let shown = c.shown-item.result in
    let all = c.as_slice-shown-items.ensures ∙ c.rows.ensures.is in
    let facts : option_copied c.of.result ≡ facts_of mail shown.uid = c.of.ensures in
    let test = λ (k : Key) (ready : IsSought k view c.args.sought.now). step k view m mail rows i shown c.in_ok-finds.field-0 (option_copied c.of.result) all c.loop-shown-test.true c.shown-item.is facts (c.in_ok-finds.ensures k view ready) in
    let number : c.loop-shown.number + 1 ≡ i + 1 = ap (λ n. n + 1) c.loop-shown.invariant.counted in
    elim c.if-branch.branch [
      | then-branch+in_ok-push w ↦ record {
        counted = number;
        chosen = λ k ready message known.
            w.numbers-is ∙ w.in_ok-push.ensures.ok ∙ ap (λ t. t ++ (c.loop-shown.number + 1) ∷ []) (c.loop-shown.invariant.chosen k ready message known) ∙ ap (λ n. chosen (finds k view m mail message) (take i rows) ++ n ∷ []) number ∙ sym (chosen_in (finds k view m mail message) rows i shown c.loop-shown-test.true (test k ready message known ∙ w.if-branch.true));
      }
      | else-branch w ↦ record {
        counted = number;
        chosen = λ k ready message known.
            w.numbers-is ∙ c.loop-shown.invariant.chosen k ready message known ∙ sym (chosen_out (finds k view m mail message) rows i shown c.loop-shown-test.true (test k ready message known ∙ w.if-branch.false));
      }
    ]

pub returns : goal.returns
returns c = λ k ready message known.
    c.loop-shown.invariant.chosen k ready message known ∙ ap (chosen (finds k c.args.v.now c.args.live.now.mailbox c.args.mail.now message)) (take_all c.loop-shown.shown-index c.as_slice-shown-items.result.now c.loop-shown-test.false ∙ c.as_slice-shown-items.ensures ∙ c.rows.ensures.is)
