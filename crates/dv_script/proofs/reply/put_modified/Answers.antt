use Rattle.std.proofs.Common.{◌≡◌, ◌∙◌, ◌∷◌, ◌++◌, List, ℕ, ap, sym}
use Rattle.std.specs.Prelude.{codes, decimal, flat_map}
use Rattle.std.proofs.lemmas.Result.{IfOk-weaker}
use Rattle.dv_model.specs.Texts.{with_commas}
use Rattle.dv_script.proofs.SpacedLemmas.{pieces, with_commas-cons}
use Rattle.dv_script.proofs.reply.put_modified.Goals as goal

pub returns-clause-ok : goal.returns-clause-ok
returns-clause-ok c =
    let n = c.in-Some.first.now in
    let ns = c.in-Some.others.now in
    let whole : c.args.numbers.now ≡ n ∷ ns = sym c.as_slice.ensures ∙ c.in-Some.ensures.cases.0 in
    let joined = pieces _ _ _ (codes "[MODIFIED " ++ decimal n) (flat_map (λ x. 44 ∷ decimal x) ns) c.in_ok-put_before.ensures.ok c.in_ok-put_numbers.ensures.ok in
    let front = joined ∙ ap (λ (t : List ℕ). c.args.text.now ++ (codes "[MODIFIED " ++ t)) (sym (with_commas-cons n ns)) in
    rw whole (IfOk-weaker c.put.result _ _ (λ done last. pieces _ _ _ (codes "[MODIFIED " ++ with_commas (n ∷ ns)) (codes "] ") front last) c.put.ensures.ok)
