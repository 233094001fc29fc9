use Rattle.std.proofs.Common.{List, ℕ, ap, ◌∙◌}
use Rattle.std.specs.Int.{w32, from_le_bytes}
use Rattle.dv_ext.proofs.Rows.{is_read}
use Rattle.dv_ext.proofs.updates.RowUpdates.get.Goals as goal

pub row_at-requires : goal.row_at-requires
row_at-requires c = (is_read c.self.inside.size c.self.inside.bytes.now c.args.self.now c.args.at c.self.view_is c.requires).within

pub returns-clause-uid : goal.returns-clause-uid
returns-clause-uid c =
    c.row_at.ensures.uid ∙ ap (λ (b : List ℕ). from_le_bytes w32 b) (is_read c.self.inside.size c.self.inside.bytes.now c.args.self.now c.args.at c.self.view_is c.requires).uid

pub returns-clause-bytes : goal.returns-clause-bytes
returns-clause-bytes c =
    c.row_at.ensures.bytes ∙ (is_read c.self.inside.size c.self.inside.bytes.now c.args.self.now c.args.at c.self.view_is c.requires).behind
