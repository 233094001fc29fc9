use Rattle.std.proofs.Common.{◌^◌, arith, rules}
use Rattle.dv_commands.proofs.Numbers.{number_complete, number_none}
use Rattle.dv_replies.proofs.numbers.read_digits.Goals as goal

pub returns-in-Some : goal.returns-in-Some
returns-in-Some c = number_complete (2 ^ 64) c.args.b.now c.in-Some.n (omega arith) (search rules) c.in-Some.ensures.some

pub returns-in-None : goal.returns-in-None
returns-in-None c = number_none (2 ^ 64) c.args.b.now c.in-None.ensures.none
