use Rattle.std.proofs.Common.{◌+◌, arith}
use Rattle.std.proofs.Math.Nat.{pow-le-pow_right}
use Rattle.dv_dbox.proofs.Powers.{power_below, power_more}
use Rattle.dv_dbox.proofs.digits.hex_number.Goals as goal

pub overflow_mul-n : goal.overflow_mul-n
overflow_mul-n c = let i = c.loop-b.b-index in omega (arith, c.loop-b.invariant.2, power_more i, power_below (i + 1) (omega arith))

pub overflow_add-n : goal.overflow_add-n
overflow_add-n c = let i = c.loop-b.b-index in omega (arith, c.loop-b.invariant.2, power_more i, power_below (i + 1) (omega arith))

pub returns-clause-bound : goal.returns-clause-bound
returns-clause-bound c = omega (arith, c.loop-b.invariant.2, pow-le-pow_right {n = 16} (omega arith) {i = c.loop-b.b-index} {j = c.args.most} (omega arith))
