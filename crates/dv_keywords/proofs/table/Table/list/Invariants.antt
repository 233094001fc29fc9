use Rattle.std.proofs.Common.{◌≡◌, take}
use Rattle.dv_keywords.proofs.table.Table.list.Given as goal

abbrev pub invariant-loop-name : goal.invariant-loop-name
invariant-loop-name l = l.names ≡ take l.name-index l.name-items
