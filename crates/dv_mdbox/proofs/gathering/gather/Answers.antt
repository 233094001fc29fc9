use Rattle.std.proofs.Common.{ap, arith}
use Rattle.std.specs.Option.{option_copied}
use Rattle.dv_mdbox.proofs.Gathered.{gathered_step, gathers_all}
use Rattle.dv_mdbox.proofs.gathering.gather.Goals as goal

pub loop-row-preserved : goal.loop-row-preserved
loop-row-preserved c =
    gathered_step c.args.bytes.now c.args.rows.now c.loop-row.row-index _ c.loop-row.all c.extend.new.self c.loop-row.size c.in-Some.end (option_copied c.in_ok-text.field-0) c.in-Some-2.text.now c.loop-row-test.true c.loop-row.invariant c.in_ok-text.ensures (ap option_copied c.in-Some-2.is) c.in-Some.ensures
    c.in_ok-extend-in-Some-2.ensures.ok

pub returns : goal.returns
returns c = gathers_all c.args.bytes.now c.args.rows.now c.loop-row.row-index c.loop-row.all c.loop-row.size (omega (arith, c.loop-row-test.false)) c.loop-row.invariant
