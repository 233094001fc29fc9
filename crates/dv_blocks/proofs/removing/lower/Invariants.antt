use Rattle.std.proofs.Common.{◌≡◌, ◌++◌, drop, map, take}
use Rattle.dv_blocks.specs.Chunks.{lowered}
use Rattle.dv_blocks.proofs.removing.lower.Given as goal

abbrev pub invariant-loop-at : goal.invariant-loop-at
invariant-loop-at l = l.starts ≡ map (lowered l.from l.to) (take l.at l.initial.starts) ++ drop l.at l.initial.starts
