use Rattle.std.proofs.Common.{sym}
use Rattle.dv_blocks.proofs.Items.{item_is_set, with_block}
use Rattle.dv_blocks.proofs.joining.put_block.Goals as goal

pub returns : goal.returns
returns c = sym (item_is_set (with_block c.args.block) c.args.chunks.now c.args.at c.index-chunks-at.result c.requires)
