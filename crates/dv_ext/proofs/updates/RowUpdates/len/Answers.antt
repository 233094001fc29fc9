use Rattle.std.proofs.Common.{◌/◌, length, ap, sym, ◌∙◌}
use Rattle.dv_model.specs.Effects.{update_size}
use Rattle.dv_ext.specs.Updates.{Updates}
use Rattle.dv_ext.proofs.Rows.{length-update_rows}
use Rattle.dv_ext.proofs.updates.RowUpdates.len.Goals as goal

pub returns : goal.returns
returns c =
    let n = update_size c.self.inside.size in
    rw c.row_size.ensures (sym (length-update_rows (length c.self.inside.bytes.now / n) n c.self.inside.bytes.now) ∙ ap (λ (u : Updates). length u.rows) c.self.view_is)
