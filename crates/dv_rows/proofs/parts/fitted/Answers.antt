use Rattle.std.proofs.Common.{ℕ, List, [], ◌∷◌, ◌++◌, ap, get_or, sym, ◌∙◌}
use Rattle.dv_model.specs.declared.types.Extension.{Extension}
use Rattle.dv_model.specs.Effects.{grown_to}
use Rattle.dv_ext.proofs.Sizing.{fitted_next}
use Rattle.dv_rows.proofs.parts.fitted.Goals as goal

pub loop-at-preserved : goal.loop-at-preserved
loop-at-preserved c =
    let parts = c.args.parts.now in
    let es = c.args.extensions.now in
    let at = c.loop-at.at in
    let e : Extension = c.index-extensions-at.result in
    c.in_ok-push.ensures.ok
    ∙ ap (λ (part : List ℕ). c.loop-at.made ++ part ∷ []) c.in_ok-part.ensures
    ∙ ap (λ (made : List (List ℕ)). made ++ grown_to (get_or es at e).record_size (get_or parts at []) ∷ []) c.loop-at.invariant
    ∙ sym (fitted_next es at e parts c.loop-at-test.true)
