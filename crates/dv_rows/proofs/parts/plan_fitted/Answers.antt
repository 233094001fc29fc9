use Rattle.std.proofs.Common.{◌≡◌, ◌∙◌, ap, List, rules, ℕ}
use Rattle.dv_model.specs.declared.types.Row.{Row}
use Rattle.dv_ext.specs.Sizes.{fitted, sizes_of}
use Rattle.dv_rows.proofs.PutBack.{zip_more}
use Rattle.dv_rows.proofs.parts.plan_fitted.Goals as goal

pub loop-row-preserved : goal.loop-row-preserved
loop-row-preserved c =
    zip_more (λ (row : Row) (parts : List (List ℕ)). parts ≡ fitted (sizes_of c.args.extensions.now) row.parts) c.args.rows.now c.loop-row.row-index c.row-item.result c.in_ok-fitted.field-0 c.loop-row.plan.items c.push.new.self.items
    (search rules) c.loop-row.invariant (c.in_ok-fitted.ensures ∙ ap (fitted (sizes_of c.args.extensions.now)) c.as_slice.ensures ∙ ap (λ (row : Row). fitted (sizes_of c.args.extensions.now) row.parts) c.row-item.is) c.in_ok-push.ensures.items
