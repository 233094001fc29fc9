use Rattle.std.proofs.Common.{◌≡◌, take}
use Rattle.dv_responses.specs.Asked.{field_names}
use Rattle.dv_responses.proofs.asking.field_names.Given as goal

abbrev pub invariant-loop-item : goal.invariant-loop-item
invariant-loop-item l = l.names ≡ field_names (take l.item-index l.items)
