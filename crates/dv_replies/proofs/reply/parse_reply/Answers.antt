use Rattle.dv_replies.proofs.Exact.{bad, every, found, only}
use Rattle.dv_replies.proofs.reply.parse_reply.Goals as goal

pub returns-clause-found : goal.returns-clause-found
returns-clause-found c = found c.args.b.now c.read_sized.result c.read_sized.ensures

pub returns-clause-only : goal.returns-clause-only
returns-clause-only c = only c.args.b.now c.read_sized.result c.read_sized.ensures

pub returns-clause-bad : goal.returns-clause-bad
returns-clause-bad c = bad c.args.b.now c.read_sized.result c.read_sized.ensures

pub returns-clause-every : goal.returns-clause-every
returns-clause-every c = every c.args.b.now c.read_sized.result c.read_sized.ensures
