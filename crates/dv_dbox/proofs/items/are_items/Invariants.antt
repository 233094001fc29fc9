use Rattle.std.proofs.Common.{◌≡◌, drop}
use Rattle.std.specs.List.{list_all}
use Rattle.dv_dbox.specs.BoxTexts.{is_item}
use Rattle.dv_dbox.specs.Reading.{texts}
use Rattle.dv_dbox.proofs.items.are_items.Given as goal

abbrev pub invariant-loop-text : goal.invariant-loop-text
invariant-loop-text l = list_all is_item (texts l.items) ≡ list_all is_item (texts (drop l.text-index l.items))
