use Rattle.std.proofs.Common.{◌∙◌, ap, length, sym}
use Rattle.dv_model.specs.declared.types.Row.{Row}
use Rattle.dv_blocks.proofs.Cuts.{many_parts}
use Rattle.dv_blocks.proofs.row.RowView.part_count.Goals as goal

pub returns : goal.returns
returns c = sym (many_parts c.self.inside.sizes.now c.self.inside.parts.now) ∙ ap (λ (r : Row). length r.parts) c.self.view_is
