use Rattle.dv_model.specs.Effects.{zeroed}
use Rattle.dv_rows.proofs.PartChanges.{item_set, no_item}
use Rattle.dv_rows.proofs.parts.zero_at.Goals as goal

pub returns-then-place-parts : goal.returns-then-place-parts
returns-then-place-parts c = no_item zeroed c.args.parts.now c.args.place c.if-place-parts.true

pub returns : goal.returns
returns c = item_set zeroed c.args.parts.now c.args.place c.index-parts-place.result c.zero.new.part c.if-place-parts.false c.zero.ensures
