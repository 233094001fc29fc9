use Rattle.std.proofs.Common.{◌≡◌, drop}
use Rattle.dv_dbox.specs.BoxTexts.{value_of}
use Rattle.dv_dbox.specs.Reading.{texts}
use Rattle.dv_dbox.proofs.values.value_of.Given as goal

abbrev pub invariant-loop-item : goal.invariant-loop-item
invariant-loop-item l = value_of l.key (texts l.items) ≡ value_of l.key (texts (drop l.item-index l.items))
