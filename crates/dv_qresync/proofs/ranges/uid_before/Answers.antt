use Rattle.std.proofs.Common.{arith}
use Rattle.dv_qresync.proofs.Gathered.{none_before, uid_is_before}
use Rattle.dv_qresync.proofs.ranges.uid_before.Goals as goal

pub returns-then-uid-first-clause-none : goal.returns-then-uid-first-clause-none
returns-then-uid-first-clause-none c =
    none_before c.args.live.now.mailbox c.requires.valid c.args.place c.args.first c.row.result.now (omega arith) c.requires.place c.row.ensures (omega (arith, c.if-uid-first.true))

pub returns-clause-some : goal.returns-clause-some
returns-clause-some c =
    uid_is_before c.args.live.now.mailbox c.requires.valid c.args.place c.args.first c.row.result.now (omega arith) c.requires.place c.row.ensures (omega (arith, c.if-uid-first.false))
