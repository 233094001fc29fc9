use Rattle.std.proofs.Common.{take}
use Rattle.dv_mdbox.proofs.Gathered.{AreGathered}
use Rattle.dv_mdbox.proofs.gathering.gather.Given as goal

abbrev pub invariant-loop-row : goal.invariant-loop-row
invariant-loop-row l = AreGathered l.bytes (take l.row-index l.rows) l.all l.size
