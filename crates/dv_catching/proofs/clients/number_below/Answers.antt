use Rattle.std.proofs.Common.{arith, sym}
use Rattle.dv_commands.proofs.Numbers.{is_above, number_complete, number_none}
use Rattle.dv_catching.proofs.clients.number_below.Goals as goal

pub returns-in_default-clause-is : goal.returns-in_default-clause-is
returns-in_default-clause-is c =
    sym (number_none c.args.limit c.args.word.now (λ n less. c.in_default.ensures.none n (omega (arith, less, c.ranges.limit.fits))))

pub returns-then-n-limit-clause-is : goal.returns-then-n-limit-clause-is
returns-then-n-limit-clause-is c =
    sym (number_complete c.args.limit c.args.word.now c.in-Some.n (omega (arith, c.ranges.limit.fits)) c.if-n-limit.true c.in-Some.ensures.some)

pub returns-else-n-limit-clause-is : goal.returns-else-n-limit-clause-is
returns-else-n-limit-clause-is c =
    sym (is_above c.args.limit c.args.word.now c.in-Some.n (omega (arith, c.if-n-limit.false)) c.is_wide.ensures c.in-Some.ensures.some)
