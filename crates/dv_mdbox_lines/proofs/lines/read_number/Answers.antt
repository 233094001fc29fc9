use Rattle.std.proofs.Common.{arith, sym}
use Rattle.dv_commands.proofs.Numbers.{is_above, number_complete, number_none}
use Rattle.dv_mdbox_lines.proofs.lines.read_number.Goals as goal

pub returns-in_default : goal.returns-in_default
returns-in_default c =
    sym (number_none 4294967296 c.args.digits.now (λ n less. c.in_default.ensures.none n (omega (arith, less))))

pub returns-then-n-lt-NUMBERS : goal.returns-then-n-lt-NUMBERS
returns-then-n-lt-NUMBERS c =
    sym (number_complete 4294967296 c.args.digits.now c.in-Some.n (omega arith) c.if-n-lt-NUMBERS.true c.in-Some.ensures.some)

pub returns-else-n-lt-NUMBERS : goal.returns-else-n-lt-NUMBERS
returns-else-n-lt-NUMBERS c =
    sym (is_above 4294967296 c.args.digits.now c.in-Some.n (omega (arith, c.if-n-lt-NUMBERS.false)) c.is_wide.ensures c.in-Some.ensures.some)
