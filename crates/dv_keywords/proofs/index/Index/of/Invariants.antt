use Rattle.std.proofs.Common.{take}
use Rattle.dv_keywords.specs.Finding.{FindsAll}
use Rattle.dv_keywords.proofs.index.Index.of.Given as goal

abbrev pub invariant-loop-at : goal.invariant-loop-at
invariant-loop-at l = FindsAll l.index.map (take l.at l.names)
