use Rattle.std.proofs.Common.{arith}
use Rattle.dv_qresync.proofs.Gathered.{gathers_behind, gathers_end, gathers_more, gathers_over, gathers_start}
use Rattle.dv_qresync.proofs.ranges.put_free.Goals as goal

pub loop-uid-init : goal.loop-uid-init
loop-uid-init c = gathers_start c.args.live.now.mailbox c.args.range c.args.ranges.now.items c.args.place c.requires.range c.requires.place c.requires.behind

pub loop-uid-preserved-then-uid-last : goal.loop-uid-preserved-then-uid-last
loop-uid-preserved-then-uid-last c =
    gathers_more c.args.live.now.mailbox c.requires.valid c.args.range c.requires.range c.args.ranges.now.items c.loop-uid.place c.loop-uid.last c.loop-uid.ranges.items c.loop-uid.invariant c.in-Some.uid c.put_before.new.ranges.items
    c.in-Some.ensures.some (omega (arith, c.if-uid-last.true)) c.in_ok-put_before.ensures

pub loop-uid-preserved : goal.loop-uid-preserved
loop-uid-preserved c =
    gathers_over c.args.live.now.mailbox c.requires.valid c.args.range c.requires.range c.args.ranges.now.items c.loop-uid.place c.loop-uid.last c.loop-uid.ranges.items c.loop-uid.invariant c.in-Some.uid
    c.in-Some.ensures.some (omega (arith, c.if-uid-last.false))

pub returns-clause-free : goal.returns-clause-free
returns-clause-free c =
    gathers_end c.args.live.now.mailbox c.requires.valid c.args.range c.requires.range c.args.ranges.now.items c.loop-uid.place c.loop-uid.last c.loop-uid.ranges.items c.loop-uid.invariant
    c.put_before-2.new.ranges.items c.in_default.ensures.none c.in_ok-put_before-2.ensures

pub returns-clause-behind : goal.returns-clause-behind
returns-clause-behind c = gathers_behind c.args.live.now.mailbox c.requires.valid c.args.range c.requires.range c.args.ranges.now.items c.loop-uid.place c.loop-uid.last c.loop-uid.ranges.items c.loop-uid.invariant
