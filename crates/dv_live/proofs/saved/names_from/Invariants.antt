use Rattle.std.proofs.Common.{◌≡◌, take}
use Rattle.dv_live.proofs.saved.names_from.Given as goal

abbrev pub invariant-loop-name : goal.invariant-loop-name
invariant-loop-name l = l.made.items ≡ take l.name-index l.more
