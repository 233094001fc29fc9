use Rattle.std.proofs.Common.{sym}
use Rattle.dv_model.specs.Sessions.{group_of}
use Rattle.dv_plans.proofs.limits.limit_met.Goals as goal

pub returns : goal.returns
returns c = λ view guid ordered sizes valid are.
    c.limit_of.ensures (group_of c.args.c.now view c.args.live.now.mailbox guid) (sym (c.size_of.ensures view guid ordered sizes valid are))
