use Rattle.std.proofs.Common.{◌∙◌, ◌<◌, ap, length, subst, sym}
use Rattle.dv_model.specs.declared.types.Row.{Row}
use Rattle.dv_blocks.proofs.Cuts.{many_parts}
use Rattle.dv_blocks.proofs.row.RowView.part.Goals as goal

pub part_at-requires : goal.part_at-requires
part_at-requires c =
    let many = sym (many_parts c.self.inside.sizes.now c.self.inside.parts.now) ∙ ap (λ (r : Row). length r.parts) c.self.view_is in
    subst (λ n. c.args.at < n) (sym many) c.requires
