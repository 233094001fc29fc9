use Rattle.std.proofs.Common.{◌≡◌, sum, take}
use Rattle.dv_blocks.proofs.rows.total.Given as goal

abbrev pub invariant-loop-size : goal.invariant-loop-size
invariant-loop-size l = l.width ≡ sum (take l.size-index l.sizes)
