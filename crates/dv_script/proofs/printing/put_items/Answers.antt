use Rattle.std.proofs.Common.{◌≡◌, ◌∷◌, rules}
use Rattle.dv_formats.specs.Printing.{item_text}
use Rattle.dv_script.proofs.SpacedLemmas.{listed}
use Rattle.dv_script.proofs.printing.put_items.Goals as goal

pub returns : goal.returns
returns c =
    let parts : c.args.items.now ≡ c.in-Some.first.now ∷ c.in-Some.others.now = search rules in
    listed item_text c.in-Some.first.now c.args.items.now c.in-Some.others.now c.loop-item.item-index c.args.text.now c.put_item.new.text c.loop-item.text parts c.loop-item-test.false c.in_ok-put_item.ensures c.loop-item.invariant
