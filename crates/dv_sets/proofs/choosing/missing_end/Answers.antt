use Rattle.std.proofs.Common.{◌∙◌, sym}
use Rattle.dv_sets.proofs.Chosen.{missing_here, missing_none}
use Rattle.dv_sets.proofs.choosing.missing_end.Goals as goal

pub returns-then-is_some : goal.returns-then-is_some
returns-then-is_some c = missing_here c.args.count c.args.set.now c.loop-span.span-index _ c.missing_of-missing.result c.loop-span-test.true c.loop-span.invariant c.missing_of-missing.ensures (sym c.is_some.ensures ∙ c.if-is_some.true)

pub loop-span-preserved : goal.loop-span-preserved
loop-span-preserved c = missing_none c.args.count c.args.set.now c.loop-span.span-index _ c.missing_of-missing.result c.loop-span-test.true c.loop-span.invariant c.missing_of-missing.ensures (sym c.is_some.ensures ∙ c.if-is_some.false)
