use Rattle.std.proofs.Common.{arith}
use Rattle.dv_plans.proofs.limits.size_of.Goals as goal

pub returns : goal.returns
returns c = λ view guid ordered sizes valid are.
    let size = c.group_length.ensures view guid are sizes in
    let short = c.groups_are_short.ensures c.args.c.now view c.args.live.now.mailbox guid c.requires.command c.requires.few ordered valid sizes in
    omega (arith, size, short)
