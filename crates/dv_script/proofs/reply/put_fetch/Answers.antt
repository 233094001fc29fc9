use Rattle.std.proofs.Common.{◌∙◌, ◌∷◌, ◌++◌, List, ℕ, ap, sym}
use Rattle.std.specs.Prelude.{codes, flat_map}
use Rattle.std.proofs.lemmas.Result.{IfOk-weaker}
use Rattle.dv_model.specs.Texts.{value_text}
use Rattle.dv_script.specs.Fetches.{numbered}
use Rattle.dv_script.proofs.FetchLines.{fetch_in_parts}
use Rattle.dv_script.proofs.SpacedLemmas.{pieces}
use Rattle.dv_script.proofs.reply.put_fetch.Goals as goal

pub returns-clause-ok : goal.returns-clause-ok
returns-clause-ok c =
    let front = numbered c.args.number c.args.uid in
    let values = c.args.values.now in
    let words = flat_map (λ v. 32 ∷ value_text v) values in
    let behind = rw c.as_slice.ensures at c.in_ok-put_values.ensures.ok in
    let before = pieces _ _ _ front words c.in_ok-put_numbered.ensures.ok behind in
    let whole = sym (fetch_in_parts c.args.number c.args.uid values) in
    IfOk-weaker c.put.result _ _ (λ done last. pieces _ _ _ (front ++ words) (codes ")") before last ∙ ap (λ (t : List ℕ). c.args.text.now ++ t) whole) c.put.ensures.ok
