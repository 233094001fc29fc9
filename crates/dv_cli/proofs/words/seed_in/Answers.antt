use Rattle.std.proofs.Common.{◌^◌, arith, sym}
use Rattle.dv_commands.proofs.Numbers.{number_complete, number_none}
use Rattle.dv_cli.proofs.words.seed_in.Goals as goal

pub returns-in_default : goal.returns-in_default
returns-in_default c = sym (number_none (2 ^ 64) c.args.word.now c.in_default.ensures.none)

pub returns : goal.returns
returns c =
    sym (number_complete (2 ^ 64) c.args.word.now c.in-Some.n (omega arith) c.is_wide.ensures c.in-Some.ensures.some)
