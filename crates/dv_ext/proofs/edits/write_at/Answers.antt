use Rattle.std.proofs.Common.{fold}
use Rattle.dv_model.specs.Effects.{written_over}
use Rattle.dv_ext.proofs.Items.{item_written}
use Rattle.dv_ext.proofs.edits.write_at.Goals as goal

pub returns : goal.returns
returns c =
    item_written (λ e. record e { header = fold written_over e.header c.args.parts.now }) c.args.list.now c.taken-items.result.items c.from_vec.result c.args.place c.index_mut.result.now c.write.new.extension c.requires c.taken-items.ensures.items c.index_mut.ensures.value c.write.ensures c.from_vec.ensures
