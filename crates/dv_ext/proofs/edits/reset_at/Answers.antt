use Rattle.std.proofs.Common.{nat_eq, if◌then◌else◌}
use Rattle.dv_model.specs.Effects.{zeroed}
use Rattle.dv_ext.proofs.Items.{item_written}
use Rattle.dv_ext.proofs.edits.reset_at.Goals as goal

pub returns : goal.returns
returns c =
    item_written (λ e. if nat_eq c.args.preserve 0 then record e { reset_id = c.args.reset_id; header = zeroed e.header } else record e { reset_id = c.args.reset_id }) c.args.list.now c.taken-items.result.items c.from_vec.result c.args.place c.index_mut.result.now c.reset.new.extension c.requires c.taken-items.ensures.items c.index_mut.ensures.value c.reset.ensures c.from_vec.ensures
