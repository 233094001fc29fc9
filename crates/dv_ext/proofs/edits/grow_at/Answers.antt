use Rattle.std.proofs.Common.{◌≡◌}
use Rattle.dv_model.specs.Effects.{grown_extension, with_item}
use Rattle.dv_ext.proofs.Items.{item_written, ok_then}
use Rattle.dv_ext.proofs.edits.grow_at.Goals as goal

pub returns-clause-ok : goal.returns-clause-ok
returns-clause-ok c =
    ok_then c.grow-done.result (c.grow-done.new.extension ≡ grown_extension c.args.intro.now c.index_mut.result.now) (c.from_vec.result ≡ with_item c.args.place (grown_extension c.args.intro.now) c.args.list.now) c.grow-done.ensures.ok (λ grown. item_written (grown_extension c.args.intro.now) c.args.list.now c.taken-items.result.items c.from_vec.result c.args.place c.index_mut.result.now c.grow-done.new.extension c.requires c.taken-items.ensures.items c.index_mut.ensures.value grown c.from_vec.ensures)
