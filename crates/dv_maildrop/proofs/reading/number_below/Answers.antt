use Rattle.std.proofs.Common.{arith, rules, sym}
use Rattle.dv_commands.proofs.Numbers.{is_above, number_complete, number_none}
use Rattle.dv_maildrop.proofs.reading.number_below.Goals as goal

pub returns-in-Some-clause-number : goal.returns-in-Some-clause-number
returns-in-Some-clause-number c =
    sym (number_complete c.args.limit c.args.b.now c.in-Some.n (omega (arith, c.ranges.limit.fits)) c.if-n-limit.true c.in-Some.ensures.some)

pub returns-in_default-clause-number : goal.returns-in_default-clause-number
returns-in_default-clause-number c =
    sym (is_above c.args.limit c.args.b.now c.in-Some.n c.if-n-limit.false (search rules) c.in-Some.ensures.some)

pub returns-in_default-2-clause-number : goal.returns-in_default-2-clause-number
returns-in_default-2-clause-number c =
    sym (number_none c.args.limit c.args.b.now (λ n less is. c.in_default.ensures.none n (omega (arith, less, c.ranges.limit.fits)) is))
