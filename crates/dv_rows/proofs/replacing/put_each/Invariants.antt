use Rattle.std.proofs.Common.{length}
use Rattle.dv_rows.proofs.PutBack.{IsReplaced}
use Rattle.dv_rows.proofs.replacing.put_each.Given as goal

abbrev pub invariant-loop-new : goal.invariant-loop-new
invariant-loop-new g l = IsReplaced (g.T.Made.put l.modseq) l.fn.rows l.fn.made.items l.rows l.made.items

abbrev pub decreases-loop-new : goal.decreases-loop-new
decreases-loop-new g l = length l.made.items
