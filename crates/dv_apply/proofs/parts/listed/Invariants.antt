use Rattle.std.proofs.Common.{◌≡◌, take}
use Rattle.dv_apply.proofs.parts.listed.Given as goal

abbrev pub invariant-loop-k : goal.invariant-loop-k
invariant-loop-k l = l.list ≡ take l.k l.rows.rows
