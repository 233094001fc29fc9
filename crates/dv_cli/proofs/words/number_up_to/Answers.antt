use Rattle.std.proofs.Common.{◌+◌, arith, sym}
use Rattle.dv_commands.proofs.Numbers.{is_above, number_complete, number_none}
use Rattle.dv_cli.proofs.words.number_up_to.Goals as goal

pub returns-in_default-clause-is : goal.returns-in_default-clause-is
returns-in_default-clause-is c =
    sym (number_none (1 + c.args.most) c.args.word.now (λ n less. c.in_default.ensures.none n (omega (arith, less, c.ranges.most.fits))))

pub returns-then-n-from-clause-is : goal.returns-then-n-from-clause-is
returns-then-n-from-clause-is c =
    sym (number_complete (1 + c.args.most) c.args.word.now c.in-Some.n (omega (arith, c.ranges.most.fits)) (omega (arith, c.if-n-from.true, c.from.ensures)) c.in-Some.ensures.some)

pub returns-else-n-from-clause-is : goal.returns-else-n-from-clause-is
returns-else-n-from-clause-is c =
    sym (is_above (1 + c.args.most) c.args.word.now c.in-Some.n (omega (arith, c.if-n-from.false, c.from.ensures)) c.is_wide.ensures c.in-Some.ensures.some)
