use Rattle.std.proofs.Common.{◌≡◌, take}
use Rattle.std.specs.List.{AllZip}
use Rattle.dv_ext.specs.Sizes.{fitted, sizes_of}
use Rattle.dv_rows.proofs.parts.plan_fitted.Given as goal

abbrev pub invariant-loop-row : goal.invariant-loop-row
invariant-loop-row l = AllZip (λ row parts. parts ≡ fitted (sizes_of l.extensions) row.parts) (take l.row-index l.rows) l.plan.items
