use Rattle.std.proofs.Common.{◌∙◌, ◌∷◌, ◌++◌, List, ℕ, ap, sym}
use Rattle.std.specs.Prelude.{codes, decimal, flat_map}
use Rattle.std.proofs.lemmas.Result.{IfOk-weaker}
use Rattle.dv_script.proofs.SpacedLemmas.{pieces, spaced-map}
use Rattle.dv_script.proofs.reply.put_search.Goals as goal

pub returns-clause-ok : goal.returns-clause-ok
returns-clause-ok c =
    let numbers = c.args.numbers.now in
    let behind = rw c.as_slice.ensures at c.put_numbers.ensures.ok in
    IfOk-weaker c.put_numbers.result _ _ (λ done last. pieces _ _ _ (codes "* SEARCH") (flat_map (λ n. 32 ∷ decimal n) numbers) c.in_ok-put.ensures.ok last ∙ ap (λ (t : List ℕ). c.args.text.now ++ t) (sym (spaced-map decimal (codes "* SEARCH") numbers))) behind
