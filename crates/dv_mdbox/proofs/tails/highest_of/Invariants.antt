use Rattle.std.proofs.Common.{take}
use Rattle.dv_mdbox.specs.Tails.{IsHighest}
use Rattle.dv_mdbox.proofs.tails.highest_of.Given as goal

abbrev pub invariant-loop-name : goal.invariant-loop-name
invariant-loop-name l = IsHighest (take l.name-index l.names) l.highest
